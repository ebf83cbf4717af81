-- What is written of a list, item by item.
use Rattle.std.proofs.Common.{ℕ, List, ◌++◌}
use Rattle.std.specs.List.{flat_map}

-- the text so far, and behind it what is still to be written
abbrev pub written : {A : Type 0} → (A → List ℕ) → List ℕ → List A → List ℕ
written f text items = text ++ flat_map f items
