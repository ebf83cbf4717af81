use Rattle.route_table.proofs.Layers.{AreLayersTo}
use Rattle.route_table.proofs.route_table.RouteTable.layers.Given as goal

abbrev pub invariant-loop-links : goal.invariant-loop-links
invariant-loop-links l = AreLayersTo l.self l.up l.fn.to l.links l.layers
