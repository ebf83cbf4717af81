-- What was read to the end, or past the limit, has the same meaning as all of the input.
use Rattle.std.proofs.Common.{◌≡◌, ℕ, ◌+◌, ◌<◌, List, [], ◌++◌, length, take, refl, ap, ◌∙◌, inl, inr, arith}
use Rattle.std.specs.Prelude.{◌⊎◌, Option, None, Some}
use Rattle.std.proofs.lemmas.List.{take-append-le, append-nil}
use Rattle.scenario_text.specs.Line.{nothing_read}
use Rattle.scenario_text.specs.Text.{meaning_of, text_limit, parts_from, parts_of}
use Rattle.cli_answers.specs.Inputs.{ReadsWhole, IsInput}

-- the meaning depends on no more than one octet past the limit
same_front : (bytes rest : List ℕ) → (rest ≡ []) ⊎ (text_limit < length bytes) → take (text_limit + 1) (bytes ++ rest) ≡ take (text_limit + 1) bytes
same_front bytes rest (inl none) = ap (λ (r : List ℕ). take (text_limit + 1) (bytes ++ r)) none ∙ ap (take (text_limit + 1)) (append-nil bytes)
same_front bytes rest (inr long) = take-append-le (text_limit + 1) bytes rest (omega (arith, long))

-- the input whose beginning was read
pub record Read (left : Option (List ℕ)) (bytes : List ℕ) : Type 0 where
  pub input : List ℕ
  pub input_is : IsInput left input
  pub means : meaning_of input ≡ meaning_of bytes

pub read_of : (left rest : Option (List ℕ)) (bytes : List ℕ) → ReadsWhole left rest bytes → Read left bytes
read_of None rest bytes r = record { input = bytes; input_is = tt; means = refl }
read_of (Some all) None bytes r = absurd r.0
read_of (Some all) (Some rest) bytes r =
    let same = ap (take (text_limit + 1)) r.0 ∙ same_front bytes rest r.1 in
    record {
      input = all;
      input_is = refl;
      means = ap (λ (text : List ℕ). parts_from text_limit 1 nothing_read (parts_of text)) same;
    }
