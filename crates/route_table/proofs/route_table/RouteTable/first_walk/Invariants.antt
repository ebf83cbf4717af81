use Rattle.route_table.proofs.Layers.{IsUnderway}
use Rattle.route_table.proofs.route_table.RouteTable.first_walk.Given as goal

abbrev pub invariant-loop-step : goal.invariant-loop-step
invariant-loop-step l = IsUnderway l.self l.up l.fn.from l.fn.to l.links l.step l.nodes l.here
