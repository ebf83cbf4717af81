use Rattle.std.proofs.Common.{sym}
use Rattle.route_table.specs.Table.{lower_then_higher}
use Rattle.scenario_text.proofs.Links.{none_joined}
use Rattle.scenario_text.proofs.declaration_lines.are_joined.Goals as goal

pub returns-in-None-clause-joined : goal.returns-in-None-clause-joined
returns-in-None-clause-joined c = sym (none_joined c.args.routes.now (lower_then_higher c.args.a c.args.b) c.in-None.ensures.none)
