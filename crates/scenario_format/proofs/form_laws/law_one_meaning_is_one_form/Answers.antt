use Rattle.std.proofs.Common.{sym, ◌∙◌}
use Rattle.scenario_format.proofs.TextForms.{text_spelled}
use Rattle.scenario_format.proofs.form_laws.law_one_meaning_is_one_form.Goals as goal

pub returns : goal.returns
returns c = λ text other s e f. (text_spelled text s e).lines ∙ sym (text_spelled other s f).lines
