-- The first line of a text, and the text behind it.
use Rattle.std.proofs.Common.{◌≡◌, ℕ, ◌+◌, ◌<◌, ◌≤◌, Bool, true, false, cond, eqb, ltb, List, [], ◌∷◌, ◌++◌, length, take, drop, get_or, Some, None, refl, sym, ap, ◌∙◌, inl, inr, arith}
use Rattle.std.specs.List.{onto_first, position, position_or_len}
use Rattle.std.proofs.lemmas.Bool.{cases_lt, eqb-true}
use Rattle.std.proofs.lemmas.Bool.Decides.{nat_tests}
use Rattle.std.proofs.lemmas.List.{take_more, length-drop, length-take}
use Rattle.std.proofs.lemmas.List.Splits.{slice_split_first, slice_split_none, length-slice_split}
use Rattle.std.proofs.lemmas.List.Sums.{position_or_len_is, fails_before_first}
use Rattle.std.proofs.lemmas.List.Quantifiers.{position-Some}
use Rattle.scenario_text.specs.Text.{parts_of}

abbrev is_newline : ℕ → Bool
is_newline b = eqb b 10

pub some_part : (text : List ℕ) → 0 < length (parts_of text)
some_part text = omega (arith, length-slice_split is_newline text)

pub cut_there : (text line behind : List ℕ) (size : ℕ) → position (λ b. eqb b 10) text ≡ Some size → line ≡ take (size + 1) text → behind ≡ drop (size + 1) text →
    (part : List ℕ) × (line ≡ part ++ 10 ∷ []) × (parts_of text ≡ part ∷ parts_of behind) × (length line + length behind ≡ length text)
cut_there text line behind size found own rest =
    let at = position-Some is_newline text size 0 found in
    let e : size ≡ position_or_len is_newline text = sym (position_or_len_is is_newline text size 0 (omega (arith, at.0)) at.2 (λ h. at.1)) in
    let split : parts_of text ≡ take size text ∷ parts_of (drop (size + 1) text) = rw e (slice_split_first is_newline text 0 (omega (arith, at.0, e))) in
    let newline : get_or text size 0 ≡ 10 = eqb-true (get_or text size 0) 10 at.1 in
    let whole : take (size + 1) text ≡ take size text ++ 10 ∷ [] = take_more text size 0 at.0 ∙ ap (λ (b : ℕ). take size text ++ b ∷ []) newline in (
      take size text,
      own ∙ whole,
      split ∙ ap (λ (b : List ℕ). take size text ∷ parts_of b) (sym rest),
      omega (arith, ap length own, ap length rest, length-take (size + 1) text, length-drop (size + 1) text, at.0),
    )

none_found : (n m : ℕ) → cond (ltb n m) (Some n) None ≡ None → m ≤ n
none_found n m h = elim (cases_lt n m) [
  | inl less ↦ absurd (let e : ltb n m ≡ true = grind (arith, nat_tests) in let found : Some n ≡ None = rw e at h in (cc))
  | inr le ↦ le
]

pub not_cut : (text : List ℕ) → position (λ b. eqb b 10) text ≡ None → parts_of text ≡ text ∷ []
not_cut text none =
    let le : length text ≤ position_or_len is_newline text = none_found (position_or_len is_newline text) (length text) none in
    slice_split_none is_newline text (λ k d lt. fails_before_first is_newline text k d (omega (arith, le, lt)))

-- ---- the octets of all parts, with an end for each

abbrev pub total : List (List ℕ) → ℕ
total [] = 0
total (part ∷ parts) = length part + 1 + total parts

total-onto_first : (b : ℕ) (parts : List (List ℕ)) → 0 < length parts → total (onto_first b parts) ≡ total parts + 1
total-onto_first b [] h = absurd (omega arith)
total-onto_first b (part ∷ parts) h = omega arith

step : (b : Bool) (c n : ℕ) (parts : List (List ℕ)) → 0 < length parts → total parts ≡ n + 1 → total (cond b ([] ∷ parts) (onto_first c parts)) ≡ n + 1 + 1
step true c n parts some so = omega (arith, so)
step false c n parts some so = total-onto_first c parts some ∙ ap (λ (m : ℕ). m + 1) so

pub total_parts : (text : List ℕ) → total (parts_of text) ≡ length text + 1
total_parts [] = refl
total_parts (b ∷ text) = step (is_newline b) b (length text) (parts_of text) (some_part text) (total_parts text) ∙ omega arith
