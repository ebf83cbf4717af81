-- The first line of a text.
use Rattle.std.proofs.Common.{◌≡◌, ℕ, ◌+◌, ◌<◌, ◌≤◌, Bool, true, false, cond, eqb, ltb, List, [], ◌∷◌, length, take, drop, Some, None, refl, sym, ap, ◌∙◌, inl, inr, arith}
use Rattle.std.specs.List.{slice_split, position, position_or_len}
use Rattle.std.specs.Str.Lines.{lines, lines_of_parts, strip_carriage_return}
use Rattle.std.proofs.lemmas.Bool.{cases_lt}
use Rattle.std.proofs.lemmas.Bool.Decides.{nat_tests}
use Rattle.std.proofs.lemmas.List.{length-drop}
use Rattle.std.proofs.lemmas.List.Splits.{slice_split_first, slice_split_none, length-slice_split}
use Rattle.std.proofs.lemmas.List.Sums.{position_or_len_is, fails_before_first}
use Rattle.std.proofs.lemmas.List.Quantifiers.{position-Some}

abbrev is_end : ℕ → Bool
is_end b = eqb b 10

pub first_part : (part : List ℕ) (parts : List (List ℕ)) → 0 < length parts → lines_of_parts (part ∷ parts) ≡ strip_carriage_return part ∷ lines_of_parts parts
first_part part [] h = absurd (omega arith)
first_part part (next ∷ parts) h = refl

pub some_part : (text : List ℕ) → 0 < length (slice_split is_end text)
some_part text = omega (arith, length-slice_split is_end text)

pub first_there : (text line behind : List ℕ) (size : ℕ) → position (λ b. eqb b 10) text ≡ Some size → line ≡ strip_carriage_return (take size text) → behind ≡ drop (size + 1) text →
    (lines text ≡ line ∷ lines behind) × (length behind < length text)
first_there text line behind size found own rest =
    let at = position-Some is_end text size 0 found in
    let e : size ≡ position_or_len is_end text = sym (position_or_len_is is_end text size 0 (omega (arith, at.0)) at.2 (λ h. at.1)) in
    let split : slice_split is_end text ≡ take size text ∷ slice_split is_end (drop (size + 1) text) = rw e (slice_split_first is_end text 0 (omega (arith, at.0, e))) in
    let all : lines text ≡ strip_carriage_return (take size text) ∷ lines (drop (size + 1) text) = ap lines_of_parts split ∙ first_part (take size text) (slice_split is_end (drop (size + 1) text)) (some_part (drop (size + 1) text)) in
    (rw (own, rest) all, omega (arith, ap length rest, length-drop (size + 1) text, at.0))

none_found : (n m : ℕ) → cond (ltb n m) (Some n) None ≡ None → m ≤ n
none_found n m h = elim (cases_lt n m) [
  | inl less ↦ absurd (let e : ltb n m ≡ true = grind (arith, nat_tests) in let no : Some n ≡ None = rw e at h in (cc))
  | inr le ↦ le
]

pub last_part : (part : List ℕ) → 0 < length part → lines_of_parts (part ∷ []) ≡ part ∷ []
last_part part h = let e : eqb (length part) 0 ≡ false = grind (arith, nat_tests) in rw e refl

pub last_there : (text behind : List ℕ) → position (λ b. eqb b 10) text ≡ None → 0 < length text → behind ≡ [] → (lines text ≡ text ∷ lines behind) × (length behind < length text)
last_there text behind none some rest =
    let le : length text ≤ position_or_len is_end text = none_found (position_or_len is_end text) (length text) none in
    let split : slice_split is_end text ≡ text ∷ [] = slice_split_none is_end text (λ k d lt. fails_before_first is_end text k d (omega (arith, le, lt))) in
    (rw rest (ap lines_of_parts split ∙ last_part text some), rw rest some)
