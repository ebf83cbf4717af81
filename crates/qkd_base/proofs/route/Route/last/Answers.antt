use Rattle.std.proofs.Common.{ap, ◌∙◌}
use Rattle.qkd_base.specs.Route.{last_of}
use Rattle.qkd_base.proofs.Routes.{last_in_room}
use Rattle.qkd_base.proofs.route.Route.last.Goals as goal

pub returns : goal.returns
returns c = last_in_room c.self.inside.room c.self.inside.size c.index-self-self.result c.self.invariant ∙ ap last_of c.self.view_is
