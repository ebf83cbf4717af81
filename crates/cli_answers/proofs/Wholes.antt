-- What was read to the end, or past the limit of a scenario, has the answers of all of the input.
use Rattle.std.proofs.Common.{◌≡◌, ℕ, ◌+◌, ◌<◌, List, [], ◌++◌, length, take, refl, sym, ap, subst, ◌∙◌, inl, inr, arith}
use Rattle.std.specs.Prelude.{◌⊎◌, Option, None, Some}
use Rattle.std.proofs.lemmas.List.{append-nil, take-append-le}
use Rattle.scenario_text.specs.Text.{text_limit, parts_of}
use Rattle.tag_bound.specs.KeyLines.{keys_of}
use Rattle.tag_bound.specs.TextLaws.{LongTexts}
use Rattle.audit_text.specs.Input.{IsInputOf, IsBadLineOf}
use Rattle.cli_answers.specs.Answers.{Asked, Bounds, Audits, WholeAudits, Checks, Objects, verdict_at, IsAnswer, IsRefused}
use Rattle.scenario_text.specs.Line.{nothing_read}
use Rattle.scenario_check.specs.declared.refusal.Checked.{Checked}
use Rattle.scenario_check.specs.Check.{checked_from, first_number}
use Rattle.scenario_check.specs.Texts.{checked_text}
use Rattle.cli_answers.specs.Inputs.{ReadsWhole, IsInput}
use Rattle.cli_answers.specs.declared.answer.Answer.{Answer}

-- the input whose beginning was read
record Front (left : Option (List ℕ)) (bytes : List ℕ) : Type 0 where
  pub input : List ℕ
  pub input_is : IsInput left input
  pub keys : keys_of input ≡ keys_of bytes
  pub same : take (text_limit + 1) input ≡ take (text_limit + 1) bytes

same_keys : LongTexts → (bytes rest : List ℕ) → (rest ≡ []) ⊎ (text_limit < length bytes) → keys_of (bytes ++ rest) ≡ keys_of bytes
same_keys long bytes rest (inl none) = ap (λ (r : List ℕ). keys_of (bytes ++ r)) none ∙ ap keys_of (append-nil bytes)
same_keys long bytes rest (inr past) = long bytes rest (omega (arith, past))

same_front : (bytes rest : List ℕ) → (rest ≡ []) ⊎ (text_limit < length bytes) → take (text_limit + 1) (bytes ++ rest) ≡ take (text_limit + 1) bytes
same_front bytes rest (inl none) = ap (λ (r : List ℕ). take (text_limit + 1) (bytes ++ r)) none ∙ ap (take (text_limit + 1)) (append-nil bytes)
same_front bytes rest (inr long) = take-append-le (text_limit + 1) bytes rest (omega (arith, long))

front_of : LongTexts → (left rest : Option (List ℕ)) (bytes : List ℕ) → ReadsWhole left rest bytes → Front left bytes
front_of long None rest bytes r = record { input = bytes; input_is = tt; keys = refl; same = refl }
front_of long (Some all) None bytes r = absurd r.0
front_of long (Some all) (Some rest) bytes r = record {
  input = all;
  input_is = refl;
  keys = ap keys_of r.0 ∙ same_keys long bytes rest r.1;
  same = ap (take (text_limit + 1)) r.0 ∙ same_front bytes rest r.1;
}

-- what a check says of a text, by the part of it that is read
checked_in : List ℕ → Checked
checked_in front = checked_from text_limit 1 nothing_read [] (parts_of front)

-- all of the input, with the answers to this question
pub record Whole (asked : Asked) (left : Option (List ℕ)) (bytes : List ℕ) : Type 0 where
  pub input : List ℕ
  pub input_is : IsInput left input
  pub answered : (answer : Answer) → IsAnswer asked bytes answer → IsAnswer asked input answer
  pub refused : (n : ℕ) → IsRefused asked bytes n → IsRefused asked input n

pub whole_of : LongTexts → (asked : Asked) (left rest : Option (List ℕ)) (bytes : List ℕ) → ReadsWhole left rest bytes → Whole asked left bytes
unfolding checked_in
whole_of long (Bounds a b difference) left rest bytes read =
    let f = front_of long left rest bytes read in
    record { input = f.input; input_is = f.input_is; answered = λ answer h. (h.0, f.keys ∙ h.1, h.2); refused = λ n h. f.keys ∙ h }
whole_of long WholeAudits left rest bytes read =
    let f = front_of long left rest bytes read in
    record {
      input = f.input;
      input_is = f.input_is;
      answered = λ answer h. (h.0, (h.1.0, subst (λ (t : List ℕ). IsInputOf t h.1.0) (sym f.same) h.1.1, h.1.2), h.2);
      refused = λ n h. subst (λ (t : List ℕ). IsBadLineOf t n) (sym f.same) h;
    }
whole_of long Checks left rest bytes read =
    let f = front_of long left rest bytes read in
    record {
      input = f.input;
      input_is = f.input_is;
      answered = λ answer h. subst (λ (t : List ℕ). answer ≡ record { text = checked_text (checked_in t); verdict = verdict_at (first_number (checked_in t)) }) (sym f.same) h;
      refused = λ n h. h;
    }
whole_of long Objects left rest bytes read =
    let f = front_of long left rest bytes read in
    record {
      input = f.input;
      input_is = f.input_is;
      answered = λ answer h. (h.0, (h.1.0, subst (λ (t : List ℕ). IsInputOf t h.1.0) (sym f.same) h.1.1, h.1.2), h.2);
      refused = λ n h. subst (λ (t : List ℕ). IsBadLineOf t n) (sym f.same) h;
    }
whole_of long Audits left rest bytes read =
    let f = front_of long left rest bytes read in
    record {
      input = f.input;
      input_is = f.input_is;
      answered = λ answer h. (h.0, (h.1.0, subst (λ (t : List ℕ). IsInputOf t h.1.0) (sym f.same) h.1.1, h.1.2), h.2);
      refused = λ n h. subst (λ (t : List ℕ). IsBadLineOf t n) (sym f.same) h;
    }
