-- What is said of a text agrees with the reader.
use Rattle.std.specs.Prelude.{◌≡◌, ℕ, List, Some, Ok, Err}
use Rattle.scenario_text.specs.Text.{Meaning, meaning_of}
use Rattle.scenario_check.specs.declared.refusal.Checked.{Checked}
use Rattle.scenario_check.specs.declared.refusal.Checked.TheVariants.{Fine}
use Rattle.scenario_check.specs.Check.{counts_of, first_number, checked_of}

-- A text that the reader reads is fine, with the counts of its site. Of any other the first line told is the reader's.
abbrev pub Agrees : Meaning → Checked → Type 0
Agrees (Ok scenario) checked = (lines : ℕ) × (checked ≡ Fine (counts_of scenario.site lines))
Agrees (Err n) checked = first_number checked ≡ Some n

abbrev pub FirstRefused : Type 0
FirstRefused = (text : List ℕ) → Agrees (meaning_of text) (checked_of text)
