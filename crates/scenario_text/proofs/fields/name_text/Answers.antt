use Rattle.std.proofs.Common.{sym, ◌∙◌}
use Rattle.scenario_text.proofs.NameTexts.{name_is_text}
use Rattle.scenario_text.proofs.fields.name_text.Goals as goal

pub unreachable-requires : goal.unreachable-requires
unreachable-requires c = c.in-Err.ensures.cases.0 (name_is_text c.args.most c.args.word.now (sym c.is_name.ensures ∙ c.if-is_name.true))
