use Rattle.std.proofs.Common.{◌≡◌, drop}
use Rattle.qkd_base.specs.Route.{are_nodes}
use Rattle.qkd_base.proofs.route.in_range.Given as goal

abbrev pub invariant-loop-node : goal.invariant-loop-node
invariant-loop-node l = are_nodes l.nodes ≡ are_nodes (drop l.node-index l.nodes)
