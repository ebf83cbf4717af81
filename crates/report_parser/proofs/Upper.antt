-- Upper bounds: no text of a row shares with a given text more leading octets than the row's reach says.
use Rattle.std.proofs.Common.{◌≡◌, ℕ, zero, suc, ◌+◌, ◌≤◌, ◌<◌, Bool, true, false, cond, eqb, List, [], ◌∷◌, ◌++◌, length, take, drop, refl, sym, ap, ◌∙◌, subst, append_assoc, arith, inl, inr}
use Rattle.std.specs.Prelude.{◌⊎◌, min}
use Rattle.std.specs.List.{list_all}
use Rattle.std.proofs.lemmas.List.{length-take-le}
use Rattle.std.proofs.lemmas.List.Sums.{common_prefix_len-le, prefix_len-le-length}
use borrow.Author.Tests.{eqb-true}
use lib.Chars.{codes}
use Rattle.scenario_text.specs.Words.{Word}
use Rattle.scenario_format.proofs.Clean.{and_left, and_right}
use Rattle.run_types.specs.Words.{words}
use Rattle.report_parser.specs.declared.part.Part.{Part}
use Rattle.report_parser.specs.Runs.{common, greatest, is_plain, plain_len, end_reach}
use Rattle.report_parser.specs.Fits.{fit, is_text}
use Rattle.report_parser.specs.Walk.{part_reach, space_reach, parts_reach, row_reach, farthest}

abbrev pub Upper : (x : List ℕ) → (reach : List ℕ → ℕ) → Type 0
Upper x reach = (text : List ℕ) → common x text ≤ reach text

-- ---- shared leading octets

pub both_ways : (a b : ℕ) → eqb a b ≡ eqb b a
both_ways a b = grind arith

pub no_more : (p q : Bool) (m n : ℕ) → p ≡ q → m ≤ n → cond p (1 + m) 0 ≤ cond q (1 + n) 0
no_more true true m n e h = omega arith
no_more true false m n e h = absurd cc
no_more false q m n e h = omega arith

at_most_more : (p : Bool) (m n : ℕ) → m ≤ n → cond p (1 + m) 0 ≤ suc n
at_most_more true m n h = omega arith
at_most_more false m n h = omega arith

pub behind_start : (a x text : List ℕ) → common (a ++ x) text ≤ length a + common x (drop (length a) text)
behind_start [] x text = omega arith
behind_start (b ∷ a) x [] = omega arith
behind_start (b ∷ a) x (c ∷ text) =
    let h = behind_start a x text in
    let k = at_most_more (eqb b c) (common (a ++ x) text) (length a + common x (drop (length a) text)) h in omega (arith, k)

in_start_at : (p : Bool) (m n l : ℕ) → cond p (1 + n) 0 < suc l → (n < l → m ≤ n) → cond p (1 + m) 0 ≤ cond p (1 + n) 0
in_start_at true m n l lt h = let k = h (omega arith) in omega arith
in_start_at false m n l lt h = omega arith

pub in_start : (a x text : List ℕ) → common a text < length a → common (a ++ x) text ≤ common a text
in_start [] x text lt = absurd (omega arith)
in_start (b ∷ a) x [] lt = omega arith
in_start (b ∷ a) x (c ∷ text) lt = in_start_at (eqb b c) (common (a ++ x) text) (common a text) (length a) lt (in_start a x text)

-- ---- the end of a line, spaces, and any octets

end_at : (b : ℕ) (bs : List ℕ) → cond (eqb 10 b) (1 + 0) 0 ≤ cond (eqb b 10) 1 0
end_at b bs = no_more (eqb 10 b) (eqb b 10) 0 0 (both_ways 10 b) (omega arith)

pub end_upper : Upper (10 ∷ []) end_reach
end_upper [] = omega arith
end_upper (b ∷ bs) = end_at b bs

pub space_upper : (x : List ℕ) (reach : List ℕ → ℕ) → Upper x reach → Upper (32 ∷ x) (space_reach reach)
space_upper x reach h [] = omega arith
space_upper x reach h (b ∷ bs) = no_more (eqb 32 b) (eqb b 32) (common x bs) (reach bs) (both_ways 32 b) (h bs)

row_at : (b : Bool) (same long start behind total : ℕ) → eqb same long ≡ b → same ≤ long → (same < long → total ≤ same) → total ≤ long + start → start ≤ behind → total ≤ cond b (long + behind) same
row_at true same long start behind total e le short whole h = omega arith
row_at false same long start behind total e le short whole h = let ne : same < long = grind (arith, e) in short ne

pub start_upper : (nodes : List (List ℕ)) (start x : List ℕ) (ps : List Part) (reach : List ℕ → ℕ) → Upper x (parts_reach nodes ps reach) → Upper (start ++ x) (row_reach nodes start ps reach)
unfolding row_reach
start_upper nodes start x ps reach h text =
    row_at (eqb (common start text) (length start)) (common start text) (length start) (common x (drop (length start) text)) (parts_reach nodes ps reach (drop (length start) text)) (common (start ++ x) text) refl
    (common_prefix_len-le (λ a b. eqb a b) start text).0 (in_start start x text) (behind_start start x text) (h (drop (length start) text))

-- ---- single words

one_more : (n : ℕ) → 1 + n ≡ suc n
one_more n = omega arith

abbrev Word_of : List ℕ → List ℕ
Word_of text = take (plain_len text) text

abbrev Ends : (t x text : List ℕ) → Type 0
Ends t x text = (t ≡ Word_of text) ⊎ (common (t ++ x) text ≤ common t (Word_of text))

other_octet : (a b : ℕ) → is_plain a ≡ true → is_plain b ≡ false → eqb a b ≡ false
other_octet a b h k = at (eqb a b) refl
  where
    at : (c : Bool) → eqb a b ≡ c → eqb a b ≡ false
    at true e = let same : a ≡ b = eqb-true a b e in let f : true ≡ false = sym h ∙ ap is_plain same ∙ k in absurd cc
    at false e = e

none_here : (p : Bool) (m n : ℕ) → p ≡ false → cond p (1 + m) 0 ≤ n
none_here true m n e = absurd cc
none_here false m n e = omega arith

ends_both : (a b d : ℕ) (t x text : List ℕ) (p s : Bool) → is_plain b ≡ p → eqb a b ≡ s → is_plain a ≡ true → Ends t (d ∷ x) text → Ends (a ∷ t) (d ∷ x) (b ∷ text)
ends_both a b d t x text false s e f h i = inr (none_here (eqb a b) (common (t ++ d ∷ x) text) _ (other_octet a b h e))
ends_both a b d t x text true false e f h i = inr (none_here (eqb a b) (common (t ++ d ∷ x) text) _ f)
ends_both a b d t x text true true e f h (inl same) =
    let first : a ≡ b = eqb-true a b f in
    let whole : b ∷ Word_of text ≡ Word_of (b ∷ text) = rw (e, one_more (plain_len text)) refl in
    inl (ap (λ (c : ℕ). c ∷ t) first ∙ ap (λ (w : List ℕ). b ∷ w) same ∙ whole)
ends_both a b d t x text true true e f h (inr less) =
    let whole : b ∷ Word_of text ≡ Word_of (b ∷ text) = rw (e, one_more (plain_len text)) refl in
    inr (subst (λ (w : List ℕ). common (a ∷ (t ++ d ∷ x)) (b ∷ text) ≤ common (a ∷ t) w) whole (no_more (eqb a b) (eqb a b) (common (t ++ d ∷ x) text) (common t (Word_of text)) refl less))

ends_none : (b d : ℕ) (x text : List ℕ) (p : Bool) → is_plain b ≡ p → is_plain d ≡ false → Ends [] (d ∷ x) (b ∷ text)
ends_none b d x text true e h = inr (none_here (eqb d b) (common x text) _ (both_ways d b ∙ other_octet b d e h))
ends_none b d x text false e h = inl (rw e refl)

pub ends : (t : Word) (d : ℕ) (x text : List ℕ) → list_all is_plain t ≡ true → is_plain d ≡ false → Ends t (d ∷ x) text
ends [] d x [] h k = inl refl
ends [] d x (b ∷ text) h k = ends_none b d x text (is_plain b) refl k
ends (a ∷ t) d x [] h k = inr (omega arith)
ends (a ∷ t) d x (b ∷ text) h k = ends_both a b d t x text (is_plain b) (eqb a b) refl refl (and_left (is_plain a) (list_all is_plain t) h) (ends t d x text (and_right (is_plain a) (list_all is_plain t) h) k)

-- ---- parts of rows

-- The word t is a text of the part. No word shares with t more leading octets than the word's fit with the part says.
pub record Fit (nodes : List (List ℕ)) (p : Part) (t : Word) : Type 0 where
  pub plain : list_all is_plain t ≡ true
  pub text : is_text nodes p t ≡ true
  pub upper : (w : Word) → common t w ≤ fit nodes p w

word_long : (text : List ℕ) → length (Word_of text) ≡ plain_len text
word_long text = length-take-le (plain_len text) text (prefix_len-le-length is_plain text)

same_part : (b : Bool) (n behind other total : ℕ) → b ≡ true → total ≤ n + behind → total ≤ cond b (n + behind) other
same_part true n behind other total e h = h
same_part false n behind other total e h = absurd cc

other_part : (b : Bool) (n behind part total : ℕ) → total ≤ n → total ≤ part → total ≤ cond b (n + behind) (min part n)
other_part true n behind part total h k = omega arith
other_part false n behind part total h k = omega arith

pub part_upper : (nodes : List (List ℕ)) (p : Part) (t : Word) (d : ℕ) (x : List ℕ) (reach : List ℕ → ℕ) → Fit nodes p t → is_plain d ≡ false → Upper (d ∷ x) reach → Upper (t ++ d ∷ x) (part_reach nodes p reach)
unfolding part_reach
part_upper nodes p t d x reach f h behind text =
    elim (ends t d x text f.plain h) as (λ _. common (t ++ d ∷ x) text ≤ part_reach nodes p reach text) [
      | inl same ↦
          let long : length t ≡ plain_len text = ap length same ∙ word_long text in
          let further : common (d ∷ x) (drop (length t) text) ≤ reach (drop (plain_len text) text) = subst (λ (n : ℕ). common (d ∷ x) (drop n text) ≤ reach (drop (plain_len text) text)) (sym long) (behind (drop (plain_len text) text)) in
          let all : common (t ++ d ∷ x) text ≤ plain_len text + reach (drop (plain_len text) text) = omega (arith, behind_start t (d ∷ x) text, long, further) in
          same_part (is_text nodes p (Word_of text)) (plain_len text) (reach (drop (plain_len text) text)) (min (fit nodes p (Word_of text)) (plain_len text)) (common (t ++ d ∷ x) text) (sym (ap (is_text nodes p) same) ∙ f.text) all
      | inr less ↦
          let short : common t (Word_of text) ≤ length (Word_of text) = (common_prefix_len-le (λ a b. eqb a b) t (Word_of text)).1 in
          other_part (is_text nodes p (Word_of text)) (plain_len text) (reach (drop (plain_len text) text)) (fit nodes p (Word_of text)) (common (t ++ d ∷ x) text) (omega (arith, word_long text, short, less))
          (let u = f.upper (Word_of text) in omega (arith, less, u))
    ]

-- words with a space before each of them, and a text behind them
abbrev pub spaced : List Word → List ℕ → List ℕ
spaced [] tail = tail
spaced (w ∷ ws) tail = 32 ∷ (w ++ spaced ws tail)

abbrev pub Fits : (nodes : List (List ℕ)) → List Part → List Word → Type 0
Fits nodes [] [] = Unit {0}
Fits nodes [] (t ∷ ts) = ⊥
Fits nodes (p ∷ ps) [] = ⊥
Fits nodes (p ∷ ps) (t ∷ ts) = Fit nodes p t × Fits nodes ps ts

pub parts_upper : (nodes : List (List ℕ)) (ps : List Part) (ts : List Word) (d : ℕ) (x : List ℕ) (reach : List ℕ → ℕ) → is_plain d ≡ false → Fits nodes ps ts → Upper (d ∷ x) reach → Upper (spaced ts (d ∷ x)) (parts_reach nodes ps reach)
parts_upper nodes [] [] d x reach h f behind = behind
parts_upper nodes [] (t ∷ ts) d x reach h f behind = absurd f
parts_upper nodes (p ∷ ps) [] d x reach h f behind = absurd f
parts_upper nodes (p ∷ []) (t ∷ []) d x reach h f behind = space_upper (t ++ d ∷ x) (part_reach nodes p reach) (part_upper nodes p t d x reach f.0 h behind)
parts_upper nodes (p ∷ []) (t ∷ u ∷ ts) d x reach h f behind = absurd f.1
parts_upper nodes (p ∷ q ∷ ps) (t ∷ []) d x reach h f behind = absurd f.1
parts_upper nodes (p ∷ q ∷ ps) (t ∷ u ∷ ts) d x reach h f behind =
    space_upper (t ++ 32 ∷ (u ++ spaced ts (d ∷ x))) (part_reach nodes p (parts_reach nodes (q ∷ ps) reach))
    (part_upper nodes p t 32 (u ++ spaced ts (d ∷ x)) (parts_reach nodes (q ∷ ps) reach) f.0 refl (parts_upper nodes (q ∷ ps) (u ∷ ts) d x reach h f.1 behind))

-- ---- rows

pub words_spaced : (w : Word) (ws : List Word) (tail : List ℕ) → 32 ∷ (words (w ∷ ws) ++ tail) ≡ spaced (w ∷ ws) tail
words_spaced w [] tail = refl
words_spaced w (v ∷ ws) tail = ap (λ (x : List ℕ). 32 ∷ x) (append_assoc (w ++ codes " ") (words (v ∷ ws)) tail ∙ append_assoc w (codes " ") (words (v ∷ ws) ++ tail) ∙ ap (λ (x : List ℕ). w ++ x) (words_spaced v ws tail))

pub spaced_behind : (ws : List Word) (text tail : List ℕ) → spaced (ws ++ text ∷ []) tail ≡ spaced ws (32 ∷ (text ++ tail))
spaced_behind [] text tail = refl
spaced_behind (w ∷ ws) text tail = ap (λ (x : List ℕ). 32 ∷ (w ++ x)) (spaced_behind ws text tail)

-- The bound for a row: a first word, the texts of its parts, and an octet that ends the last word.
pub row_upper : (nodes : List (List ℕ)) (w : Word) (ps : List Part) (ts : List Word) (d : ℕ) (x : List ℕ) (reach : List ℕ → ℕ) → is_plain d ≡ false → Fits nodes ps ts → Upper (d ∷ x) reach
    → Upper (32 ∷ (words (w ∷ ts) ++ d ∷ x)) (row_reach nodes (32 ∷ w) ps reach)
row_upper nodes w ps ts d x reach h f behind =
    subst (λ (y : List ℕ). Upper y (row_reach nodes (32 ∷ w) ps reach)) (sym (words_spaced w ts (d ∷ x))) (start_upper nodes (32 ∷ w) (spaced ts (d ∷ x)) ps reach (parts_upper nodes ps ts d x reach h f behind))

-- The bound for a row with a text behind its words.
pub text_upper : (nodes : List (List ℕ)) (w : Word) (ps : List Part) (ts : List Word) (text : List ℕ) (reach : List ℕ → ℕ) → Fits nodes ps ts → Upper (32 ∷ (text ++ 10 ∷ [])) reach
    → Upper (32 ∷ (words (w ∷ (ts ++ text ∷ [])) ++ 10 ∷ [])) (row_reach nodes (32 ∷ w) ps reach)
text_upper nodes w ps ts text reach f behind =
    subst (λ (y : List ℕ). Upper y (row_reach nodes (32 ∷ w) ps reach)) (sym (words_spaced w (ts ++ text ∷ []) (10 ∷ []) ∙ ap (λ (y : List ℕ). 32 ∷ (w ++ y)) (spaced_behind ts text (10 ∷ []))))
    (start_upper nodes (32 ∷ w) (spaced ts (32 ∷ (text ++ 10 ∷ []))) ps reach (parts_upper nodes ps ts 32 (text ++ 10 ∷ []) reach refl f behind))

-- ---- the farthest of several rows

abbrev pub nth : List ℕ → ℕ → ℕ
nth [] i = 0
nth (n ∷ ns) zero = n
nth (n ∷ ns) (suc i) = nth ns i

pub at_most : (ns : List ℕ) (i : ℕ) → nth ns i ≤ greatest ns
at_most [] i = omega arith
at_most (n ∷ ns) zero = omega arith
at_most (n ∷ ns) (suc i) = let h = at_most ns i in omega arith

pub far : (x text : List ℕ) (ns : List ℕ) (i : ℕ) → common x text ≤ nth ns i → common x text ≤ farthest text ns
far x text ns i h = let a = at_most ns i in let b = (common_prefix_len-le (λ a b. eqb a b) x text).1 in omega arith
