use Rattle.std.proofs.Common.{length, sym, ◌∙◌}
use borrow.Author.Tests.{eqb-true}
use Rattle.scenario_text.proofs.Lists.{some_there}
use Rattle.report_grammar.proofs.Parts.{body_none, body_some}
use Rattle.report_grammar.proofs.key_rows.body.Goals as goal

pub returns-then-is_empty : goal.returns-then-is_empty
returns-then-is_empty c = body_none c.args.rest.now (eqb-true (length c.args.rest.now) 0 (sym c.is_empty.ensures ∙ c.if-is_empty.true))

pub returns-else-is_empty : goal.returns-else-is_empty
returns-else-is_empty c = c.behind.ensures ∙ body_some c.args.rest.now (some_there c.is_empty.result (length c.args.rest.now) c.is_empty.ensures c.if-is_empty.false)
