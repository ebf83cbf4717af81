use Rattle.std.proofs.Common.{◌≡◌, ◌<◌, ◌&&◌, ℕ, false}
use Rattle.route_table.specs.Layer.{has_node}
use Rattle.route_table.proofs.route_table.first_of_both.Given as goal

abbrev pub invariant-loop-number : goal.invariant-loop-number
invariant-loop-number l = (w : ℕ) → w < l.number → (has_node l.some w && has_node l.others w) ≡ false
