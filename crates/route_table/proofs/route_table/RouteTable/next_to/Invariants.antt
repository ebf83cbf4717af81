use Rattle.std.proofs.Common.{◌≡◌, ℕ}
use Rattle.route_table.specs.Layer.{has_node}
use Rattle.route_table.proofs.Layers.{crossed}
use Rattle.route_table.proofs.route_table.RouteTable.next_to.Given as goal

abbrev pub invariant-loop-link : goal.invariant-loop-link
invariant-loop-link l = (v : ℕ) → has_node l.far v ≡ crossed l.self l.up l.near v l.link
