use Rattle.std.proofs.Common.{sym, ◌∙◌}
use Rattle.scenario_gen.proofs.Growing.{gives_four, gives_none}
use Rattle.scenario_gen.proofs.round.names_in.Goals as goal

pub returns-then-is_in-clause-sum : goal.returns-then-is_in-clause-sum
returns-then-is_in-clause-sum c = gives_four c.args.node c.args.round (sym c.is_in.ensures ∙ c.if-is_in.true)

pub returns-else-is_in-clause-sum : goal.returns-else-is_in-clause-sum
returns-else-is_in-clause-sum c = gives_none c.args.node c.args.round (sym c.is_in.ensures ∙ c.if-is_in.false)
