use Rattle.std.proofs.Common.{◌≡◌, ◌∷◌, drop}
use Rattle.scenario_check.specs.Texts.{field_word}
use Rattle.scenario_check.proofs.Written.{written}
use Rattle.scenario_check.proofs.text.form_words.Given as goal

abbrev pub invariant-loop-field : goal.invariant-loop-field
invariant-loop-field l = written (λ field. 32 ∷ field_word field) l.text (drop l.field-index l.fields) ≡ written (λ field. 32 ∷ field_word field) l.fn.text l.fields
