use Rattle.std.proofs.Common.{take, ap, ◌∙◌}
use Rattle.qkd_base.specs.Route.{is_route, are_nodes}
use Rattle.qkd_base.proofs.Routes.{nodes_reverse, route_reverse}
use Rattle.qkd_base.proofs.route.Route.reversed.Goals as goal

pub in_room-requires-clause-route : goal.in_room-requires-clause-route
in_room-requires-clause-route c = ap is_route c.reverse.ensures.after ∙ route_reverse (take c.self.inside.size c.self.inside.room) ∙ c.self.invariant.route

pub in_room-requires-clause-in_range : goal.in_room-requires-clause-in_range
in_room-requires-clause-in_range c = ap are_nodes c.reverse.ensures.after ∙ nodes_reverse (take c.self.inside.size c.self.inside.room) ∙ c.self.invariant.nodes
