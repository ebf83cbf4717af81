-- The questions about a text, and their answers.
use Rattle.std.specs.Prelude.{◌≡◌, ℕ, List, take, Option, Some, None, Ok, Err}
use Rattle.tag_bound.specs.Differences.{count_giving, most_blocks}
use Rattle.tag_bound.specs.KeyLines.{keys_of}
use Rattle.tag_bound.specs.Counts.{bound_text}
use Rattle.tag_bound.specs.declared.text_refusal.KeysRefusal.{KeysRefusal}
use Rattle.tag_bound.specs.declared.text_refusal.KeysRefusal.TheVariants as keys
use Rattle.run_audit.specs.declared.verdict.Verdict as audits
use Rattle.run_audit.specs.declared.verdict.Verdict.TheVariants as verdicts
use Rattle.audit_text.specs.declared.refusal.AuditRefusal.{AuditRefusal}
use Rattle.audit_text.specs.declared.refusal.AuditRefusal.TheVariants as audit
use Rattle.audit_text.specs.Input.{IsBadLine}
use Rattle.audit_text.specs.Verdicts.{IsVerdict, verdict_text}
use Rattle.whole_audit.specs.Whole.{IsWholeVerdict}
use Rattle.scenario_check.specs.Check.{checked_of, first_number}
use Rattle.scenario_check.specs.Texts.{checked_text}
use Rattle.report_json.specs.Reading.{IsJson}
use Rattle.cli_answers.specs.declared.answer.Answer.{Answer}
use Rattle.cli_answers.specs.declared.answer.AnswerRefusal.{AnswerRefusal}
use Rattle.cli_answers.specs.declared.answer.AnswerRefusal.TheVariants.{BadLine, Memory}
use Rattle.cli_answers.specs.declared.answer.Verdict.{Verdict}
use Rattle.cli_answers.specs.declared.answer.Verdict.TheVariants.{Yes}
use Rattle.cli_answers.specs.declared.answer.Verdict.TheVariants as found
use Rattle.cli_answers.specs.declared.question.Question.{Question}
use Rattle.cli_answers.specs.declared.question.Question.TheVariants as questions

-- A question: how many keys give two texts a difference of hashes, whether a report breaks a rule of the audit or of that of the whole report, which lines of a scenario are refused, or what the items
-- of a report are.
pub data Asked : Type 0 where
  Bounds : (a b : List ℕ) → (difference : ℕ) → Asked
  Audits : Asked
  WholeAudits : Asked
  Checks : Asked
  Objects : Asked

abbrev pub asked_of : Question → Asked
asked_of (questions.Bound a b difference) = Bounds (take a.size a.octets) (take b.size b.octets) difference
asked_of questions.Audit = Audits
asked_of questions.WholeAudit = WholeAudits
asked_of questions.Check = Checks
asked_of questions.Objects = Objects

-- the texts that keys are to give a difference are different
abbrev pub CanBeAsked : Question → Type 0
CanBeAsked (questions.Bound a b difference) = ¬ (take a.size a.octets ≡ take b.size b.octets)
CanBeAsked _ = Unit {0}

-- the line with the bound on the number of keys that give two texts a difference, and the number of those among the given keys
abbrev pub count_line : (a b : List ℕ) → (difference : ℕ) → (keys : List ℕ) → List ℕ
count_line a b difference keys = bound_text (record { bound = most_blocks a b; found = count_giving a b difference keys })

-- a scenario of which no line is refused is fine
abbrev pub verdict_at : Option ℕ → Verdict
verdict_at None = Yes
verdict_at (Some n) = found.BadLine n

-- what an audit of the whole report comes to
abbrev pub found_by : audits.Verdict → Verdict
found_by (verdicts.Yes frames deliveries ledgers) = Yes
found_by (verdicts.No line rule) = found.BrokenRule

-- this is the answer to the question about the text
abbrev pub IsAnswer : Asked → (text : List ℕ) → Answer → Type 0
IsAnswer (Bounds a b difference) text answer = (keys : List ℕ) × (keys_of text ≡ Ok keys) × (answer ≡ record { text = count_line a b difference keys; verdict = Yes })
IsAnswer Audits text answer = (verdict : audits.Verdict) × IsVerdict text verdict × (answer ≡ record { text = verdict_text verdict; verdict = Yes })
IsAnswer WholeAudits text answer = (verdict : audits.Verdict) × IsWholeVerdict text verdict × (answer ≡ record { text = verdict_text verdict; verdict = found_by verdict })
IsAnswer Checks text answer = answer ≡ record { text = checked_text (checked_of text); verdict = verdict_at (first_number (checked_of text)) }
IsAnswer Objects text answer = (json : List ℕ) × IsJson text json × (answer ≡ record { text = json; verdict = Yes })

-- line n is the first line of the text that the question has no place for
abbrev pub IsRefused : Asked → (text : List ℕ) → ℕ → Type 0
IsRefused (Bounds a b difference) text n = keys_of text ≡ Err n
IsRefused Audits text n = IsBadLine text n
IsRefused WholeAudits text n = IsBadLine text n
IsRefused Checks text n = ⊥
IsRefused Objects text n = IsBadLine text n

-- a line is refused, and its number has the property Bad; or memory ran out
abbrev pub IsUnanswered : (ℕ → Type 0) → AnswerRefusal → Type 0
IsUnanswered Bad (BadLine n) = Bad n
IsUnanswered Bad Memory = Unit {0}

abbrev pub of_keys : KeysRefusal → AnswerRefusal
of_keys (keys.BadLine n) = BadLine n
of_keys keys.Memory = Memory

abbrev pub of_audit : AuditRefusal → AnswerRefusal
of_audit (audit.BadLine n) = BadLine n
of_audit audit.Memory = Memory
