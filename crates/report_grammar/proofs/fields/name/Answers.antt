use Rattle.std.proofs.Common.{sym}
use Rattle.scenario_text.proofs.NameTexts.{names_nothing}
use Rattle.report_grammar.proofs.fields.name.Goals as goal

pub returns-in-Err : goal.returns-in-Err
returns-in-Err c = sym (names_nothing c.args.word.now c.in-Err.ensures.ok.1)
