use Rattle.std.proofs.Common.{◌≡◌, ℕ, ◌==◌, ◌<◌, replicate, true, false, set, subst, arith}
use Rattle.route_table.specs.Layer.{has_node}
use Rattle.route_table.proofs.Layers.{only_one}
use Rattle.route_table.proofs.route_table.only.Goals as goal

pub returns : goal.returns
returns c v =
    let below : c.get.result < 16 = omega (arith, c.get.ensures.number, c.get.ensures.below) in
    subst (λ (node : ℕ). has_node (set (replicate 16 false) c.get.result true) v ≡ (v == node)) c.get.ensures.number (only_one c.get.result below v)
