-- A question is answered from a source to a sink.
use Rattle.std.specs.Prelude.{◌≡◌, ℕ, List, Option}
use Rattle.std.specs.Io.KnownBytes.{Appends}
use Rattle.edge_io.specs.Writes.{AppendsPrefix}
use Rattle.cli_answers.specs.Answers.{Asked, IsAnswer, IsRefused}
use Rattle.cli_answers.specs.Inputs.{WasRead, IsInput}
use Rattle.cli_answers.specs.declared.answer.Answer.{Answer}
use Rattle.cli_answers.specs.declared.answer.Verdict.{Verdict}
use Rattle.cli_answers.specs.declared.exchange.Ended.{Ended}
use Rattle.cli_answers.specs.declared.exchange.Ended.TheVariants.{Answered, BadLine, ReadFault, WriteFault, Memory}

-- The source was read to its end or past the limit, and its text has an answer that comes to this. `Takes` says what the sink took of the answer.
pub record HasAnswer (Takes : Option (List ℕ) → Option (List ℕ) → List ℕ → Type 0) (asked : Asked) (verdict : Verdict) (left rest old new : Option (List ℕ)) : Type 0 where
  pub read : WasRead left rest
  pub input : List ℕ
  pub input_is : IsInput left input
  pub answer : Answer
  pub is : IsAnswer asked input answer
  pub comes_to : answer.verdict ≡ verdict
  pub took : Takes old new answer.text

-- line n is the first line of the source that the question has no place for
pub record HasBadLine (asked : Asked) (left : Option (List ℕ)) (n : ℕ) : Type 0 where
  pub input : List ℕ
  pub input_is : IsInput left input
  pub refused : IsRefused asked input n

-- What became of source and sink. The sink takes nothing but the answer.
abbrev pub WasAnswered : {W : Type 0} → Asked → (left rest old new : Option (List ℕ)) → (before after : W) → Ended → Type 0
WasAnswered asked left rest old new before after (Answered verdict) = HasAnswer Appends asked verdict left rest old new
WasAnswered asked left rest old new before after (BadLine n) = WasRead left rest × HasBadLine asked left n × (after ≡ before)
WasAnswered asked left rest old new before after ReadFault = after ≡ before
WasAnswered asked left rest old new before after WriteFault = (verdict : Verdict) × HasAnswer AppendsPrefix asked verdict left rest old new
WasAnswered asked left rest old new before after Memory = after ≡ before
