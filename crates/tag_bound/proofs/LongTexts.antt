-- Ten thousand keys take at most 180,000 octets with their line ends, and a line of more than 17 octets has no key.
use Rattle.std.proofs.Common.{◌≡◌, ℕ, zero, suc, ◌+◌, ◌-◌, ◌*◌, ◌/◌, ◌%◌, ◌<◌, ◌≤◌, ◌⊎◌, Bool, true, false, ◌||◌, cond, eqb, List, [], ◌∷◌, ◌++◌, length, take, get_or, Option, Some, None, Result, Err, refl, sym, ap, ◌∙◌, inl, inr, arith, eq-eqb, length-append, append_assoc}
use Rattle.std.specs.Prelude.{nat_le}
use Rattle.std.specs.List.{slice_split, All}
use Rattle.std.specs.Result.{result_ok}
use Rattle.std.specs.Str.Lines.{lines, lines_of_parts, strip_carriage_return}
use Rattle.std.proofs.lemmas.Bool.{cases_eq}
use Rattle.std.proofs.lemmas.Bool.Decides.{nat_tests}
use Rattle.std.proofs.lemmas.List.{length-take}
use Rattle.std.proofs.lemmas.List.Elements.{All-cons, All-append}
use Rattle.std.proofs.lemmas.List.Splits.{slice_split_at, slice_split_none}
use Rattle.hex.specs.Hex.{decode_pairs}
use Rattle.hex.specs.declared.error.FromHexError.{FromHexError}
use Rattle.hex.specs.declared.error.FromHexError.TheVariants.{OddLength, InvalidStringLength}
use Rattle.tag_bound.specs.Words.{number_of}
use Rattle.tag_bound.specs.KeyLines.{Meaning, is_among, key_behind, then_key, keys_from, keys_of}
use Rattle.tag_bound.specs.TextLaws.{LongTexts}
use Rattle.tag_bound.proofs.FirstLines.{first_part, some_part, last_part}

-- ---- only 16 digits write a key

not_sized : (n : ℕ) (r : Result (List ℕ) FromHexError) → (n ≡ 16 → ⊥) → result_ok (cond (eqb (n % 2) 1) (Err OddLength) (cond (eqb (n / 2) 8) r (Err InvalidStringLength))) ≡ None
not_sized n r other = elim (cases_eq (n % 2) 1) [
  | inl odd ↦ rw (eq-eqb (n % 2) 1 odd) refl
  | inr even ↦
      let e : eqb (n % 2) 1 ≡ false = grind (arith, nat_tests) in
      let not_half : n / 2 ≡ 8 → ⊥ = λ h. other (omega (arith, h, even)) in
      let d : eqb (n / 2) 8 ≡ false = grind (arith, nat_tests) in
      rw (e, d) refl
]

no_number : (word : List ℕ) → (length word ≡ 16 → ⊥) → number_of word ≡ None
unfolding number_of
no_number word other = rw (not_sized (length word) (decode_pairs 0 word) other) refl

-- ---- the first line of a text

abbrev is_end : ℕ → Bool
is_end b = eqb b 10

abbrev Endless : List ℕ → Type 0
Endless text = All (λ b. is_end b ≡ false) text

-- the octets before the first line feed, and those after it
abbrev Cut : List ℕ → Type 0
Cut text = (line : List ℕ) × (rest : List ℕ) × (text ≡ line ++ 10 ∷ rest) × Endless line

cut_more : (b : ℕ) (text : List ℕ) → is_end b ≡ false → Cut text → Cut (b ∷ text)
cut_more b text other cut = (b ∷ cut.0, cut.1, ap (λ (t : List ℕ). b ∷ t) cut.2, All-cons (λ b. is_end b ≡ false) b cut.0 other cut.3)

pub cut_or_not : (text : List ℕ) → Endless text ⊎ Cut text
cut_or_not [] = inl (λ k d lt. absurd (omega arith))
cut_or_not (b ∷ text) = elim (cases_eq b 10) [
  | inl e ↦ inr ([], text, ap (λ (b : ℕ). b ∷ text) e, (λ k d lt. absurd (omega arith)))
  | inr other ↦
      let no : is_end b ≡ false = grind (arith, nat_tests) in
      elim (cut_or_not text) [
        | inl none ↦ inl (All-cons (λ b. is_end b ≡ false) b text no none)
        | inr cut ↦ inr (cut_more b text no cut)
      ]
]

lines_cut : (line rest : List ℕ) → Endless line → lines (line ++ 10 ∷ rest) ≡ strip_carriage_return line ∷ lines rest
lines_cut line rest none = ap lines_of_parts (slice_split_at is_end line 10 rest none refl) ∙ first_part line (slice_split is_end rest) (some_part rest)

lines_whole : (text : List ℕ) → Endless text → 0 < length text → lines text ≡ text ∷ []
lines_whole text none some = ap lines_of_parts (slice_split_none is_end text none) ∙ last_part text some

stripped : (b : Bool) (line : List ℕ) → length line ≤ length (cond b (take (length line - 1) line) line) + 1
stripped true line = omega (arith, length-take (length line - 1) line)
stripped false line = omega arith

strip_long : (line : List ℕ) → length line ≤ length (strip_carriage_return line) + 1
strip_long line = stripped (eqb (get_or line (length line - 1) 0) 13) line

-- ---- a prefix that is long enough to determine the meaning

no_key : (keys : List ℕ) (all : List (List ℕ)) (line : List ℕ) (more : List (List ℕ)) → all ≡ line ∷ more → number_of line ≡ None → keys_from keys all ≡ Err (length keys + 1)
no_key keys all line more e none = rw (e, none) refl

-- a first line of more than 17 octets is refused
long_line : (keys front behind : List ℕ) → Endless front → 18 ≤ length front → keys_from keys (lines (front ++ behind)) ≡ Err (length keys + 1)
long_line keys front behind none long = elim (cut_or_not behind) [
  | inl too ↦
      let whole : Endless (front ++ behind) = All-append (λ b. is_end b ≡ false) front behind none too in
      let size = length-append front behind in
      no_key keys (lines (front ++ behind)) (front ++ behind) [] (lines_whole (front ++ behind) whole (omega (arith, size, long))) (no_number (front ++ behind) (λ h. absurd (omega (arith, size, long, h))))
  | inr cut ↦
      let line = front ++ cut.0 in
      let size = length-append front cut.0 in
      let e : front ++ behind ≡ line ++ 10 ∷ cut.1 = ap (λ (b : List ℕ). front ++ b) cut.2 ∙ sym (append_assoc front cut.0 (10 ∷ cut.1)) in
      no_key keys (lines (front ++ behind)) (strip_carriage_return line) (lines cut.1) (ap lines e ∙ lines_cut line cut.1 (All-append (λ b. is_end b ≡ false) front cut.0 none cut.3)) (no_number (strip_carriage_return line) (λ h. absurd (omega (arith, strip_long line, size, long, h))))
]

refused : (a b : Bool) (k : ℕ) → b ≡ true → cond (a || b) None (Some k) ≡ None
refused true b k e = refl
refused false b k e = rw e refl

full : (keys : List ℕ) (given : Option ℕ) → 10000 ≤ length keys → key_behind keys given ≡ None
full keys None h = refl
full keys (Some k) h = let e : nat_le 10000 (length keys) ≡ true = grind (arith, nat_tests) in refused (is_among keys k) (nat_le 10000 (length keys)) k e

next : (keys : List ℕ) (given : Option ℕ) (f g : List ℕ → Meaning) → ((k : ℕ) → given ≡ Some k → f (keys ++ k ∷ []) ≡ g (keys ++ k ∷ [])) → then_key keys given f ≡ then_key keys given g
next keys None f g same = refl
next keys (Some k) f g same = same k refl

-- a line with a key has at most 17 octets, its line feed not counted
short_line : (keys line : List ℕ) (k : ℕ) → key_behind keys (number_of (strip_carriage_return line)) ≡ Some k → length line ≤ 17
short_line keys line k has = elim (cases_eq (length (strip_carriage_return line)) 16) [
  | inl e ↦ omega (arith, e, strip_long line)
  | inr other ↦ absurd (let no : key_behind keys (number_of (strip_carriage_return line)) ≡ None = ap (key_behind keys) (no_number (strip_carriage_return line) other) in (cc))
]

-- two texts with the same first line mean the same if what follows in them means the same
at_cut : (keys line rest behind : List ℕ) → Endless line → ((k : ℕ) → key_behind keys (number_of (strip_carriage_return line)) ≡ Some k →
    keys_from (keys ++ k ∷ []) (lines (rest ++ behind)) ≡ keys_from (keys ++ k ∷ []) (lines rest)) → keys_from keys (lines ((line ++ 10 ∷ rest) ++ behind)) ≡ keys_from keys (lines (line ++ 10 ∷ rest))
at_cut keys line rest behind none same =
    let whole : lines ((line ++ 10 ∷ rest) ++ behind) ≡ strip_carriage_return line ∷ lines (rest ++ behind) = ap lines (append_assoc line (10 ∷ rest) behind) ∙ lines_cut line (rest ++ behind) none in
    let front : lines (line ++ 10 ∷ rest) ≡ strip_carriage_return line ∷ lines rest = lines_cut line rest none in
    ap (keys_from keys) whole
    ∙ next keys (key_behind keys (number_of (strip_carriage_return line))) (λ all. keys_from all (lines (rest ++ behind))) (λ all. keys_from all (lines rest)) same
    ∙ ap (keys_from keys) (sym front)

whole_front : (keys front behind : List ℕ) → Endless front → 18 ≤ length front → keys_from keys (lines (front ++ behind)) ≡ keys_from keys (lines front)
whole_front keys front behind none long =
    long_line keys front behind none long
    ∙ sym (no_key keys (lines front) front [] (lines_whole front none (omega (arith, long))) (no_number front (λ h. absurd (omega (arith, long, h)))))

same_from : (left : ℕ) (keys front behind : List ℕ) → length keys + left ≡ 10000 → 18 * left + 18 ≤ length front → keys_from keys (lines (front ++ behind)) ≡ keys_from keys (lines front)
same_from zero keys front behind count long = elim (cut_or_not front) [
  | inl none ↦ whole_front keys front behind none (omega (arith, long))
  | inr cut ↦
      rw cut.2 (at_cut keys cut.0 cut.1 behind cut.3 (λ k has. absurd (let no = full keys (number_of (strip_carriage_return cut.0)) (omega (arith, count)) in (cc))))
]
same_from (suc left) keys front behind count long = elim (cut_or_not front) [
  | inl none ↦ whole_front keys front behind none (omega (arith, long))
  | inr cut ↦
      let size : length front ≡ length cut.0 + (1 + length cut.1) = ap length cut.2 ∙ length-append cut.0 (10 ∷ cut.1) ∙ ap (λ (n : ℕ). length cut.0 + n) (omega arith) in
      rw cut.2 (at_cut keys cut.0 cut.1 behind cut.3 (λ k has.
      same_from left (keys ++ k ∷ []) cut.1 behind (omega (arith, length-append keys (k ∷ []), count)) (omega (arith, short_line keys cut.0 k has, size, long))))
]

pub long_texts : LongTexts
unfolding keys_of
long_texts front behind long = same_from 10000 [] front behind refl long
