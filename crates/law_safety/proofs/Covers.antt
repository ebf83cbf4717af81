-- A frame covers the bytes that it needs, from its offset on.
use Rattle.std.proofs.Common.{◌≡◌, ℕ, ◌+◌, ◌<◌, ◌≤◌, true, List, Some, arith}
use Rattle.std.proofs.lemmas.Bool.Decides.{nat_tests}
use Rattle.net_model.specs.declared.fact.Fact.{Fact}
use Rattle.net_model.specs.Item.{need}
use Rattle.net_model.specs.Ownership.{covers}
use Rattle.net_model.specs.World.{Allocation}

pub in_range : (facts : List Fact) (a : Allocation) (x : ℕ) → a.offset ≤ x → x < a.offset + need facts a.item → covers facts (Some a) x ≡ true
in_range facts a x lo hi = let n : ℕ = need facts a.item in grind (arith, nat_tests)
