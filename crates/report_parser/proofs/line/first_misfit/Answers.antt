use Rattle.std.proofs.Common.{sym, subst}
use Rattle.report_parser.specs.Misfit.{IsFitted, IsReached}
use Rattle.report_parser.proofs.ItemUppers.{line_upper}
use Rattle.report_parser.proofs.ItemLowers.{line_reached}
use Rattle.report_parser.proofs.line.first_misfit.Goals as goal

pub returns-clause-fitted : goal.returns-clause-fitted
returns-clause-fitted c = subst (IsFitted c.args.nodes.now c.args.line.now) (sym c.line_reach.ensures.reach) (line_upper c.args.nodes.now c.args.line.now)

pub returns-clause-reached : goal.returns-clause-reached
returns-clause-reached c = λ named. subst (IsReached c.args.nodes.now c.args.line.now) (sym c.line_reach.ensures.reach) (line_reached c.args.nodes.now c.args.line.now named)
