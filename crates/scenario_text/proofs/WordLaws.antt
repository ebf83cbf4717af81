-- The words of a line, read from the front.
use Rattle.std.specs.Prelude.{◌⊎◌}
use Rattle.std.proofs.lemmas.List.{length-take-le}
use Rattle.std.proofs.Common.{inl, inr, get_or, ◌≡◌, ℕ, suc, ◌+◌, ◌<◌, ◌≤◌, Bool, true, false, eqb, List, [], ◌∷◌, length, take, drop, filter, refl, sym, ap, ◌∙◌, subst, arith, rules}
use Rattle.std.specs.List.{slice_split, onto_first, prefix_len}
use Rattle.scenario_text.specs.Words.{Word, is_space, is_word, len_to, words_of}

abbrev parts : List ℕ → List (List ℕ)
parts line = slice_split is_space line

-- the first part of a line; the words of the other parts are those of the text after it
record Splits (line : List ℕ) : Type 0 where
  others : List (List ℕ)
  is : parts line ≡ take (len_to 32 line) line ∷ others
  rest : filter is_word others ≡ words_of (drop (len_to 32 line) line)

one_more : (n : ℕ) → 1 + n ≡ suc n
one_more n = omega arith

splits_onto : (x : ℕ) (b : Bool) (xs : List ℕ) → eqb x 32 ≡ b → Splits xs → Splits (x ∷ xs)
unfolding words_of
splits_onto x true xs e s =
    let spaced : words_of (x ∷ xs) ≡ filter is_word (parts xs) = rw e refl in
    record {
      others = parts xs;
      is = rw e refl;
      rest = rw e (sym spaced);
    }
splits_onto x false xs e s = record {
  others = s.others;
  is = rw (e, one_more (len_to 32 xs)) (ap (onto_first x) s.is);
  rest = rw (e, one_more (len_to 32 xs)) s.rest;
}

splits : (line : List ℕ) → Splits line
unfolding words_of
splits [] = record { others = []; is = refl; rest = refl }
splits (x ∷ xs) = splits_onto x (eqb x 32) xs refl (splits xs)

-- the words of a line that begins with a word
word_first : (size : ℕ) (line : List ℕ) (others : List (List ℕ)) → parts line ≡ take size line ∷ others → 0 < length (take size line) → words_of line ≡ take size line ∷ filter is_word others
unfolding words_of
word_first size line others is some = rw is (search (rules, some))

-- spaces at the front don't change the words
space_first : (x : ℕ) (b : Bool) (xs : List ℕ) → eqb x 32 ≡ b → words_of (drop (prefix_len is_space xs) xs) ≡ words_of xs → words_of (drop (prefix_len is_space (x ∷ xs)) (x ∷ xs)) ≡ words_of (x ∷ xs)
unfolding words_of
space_first x true xs e h = rw (e, one_more (prefix_len is_space xs)) h
space_first x false xs e h = let none : prefix_len is_space (x ∷ xs) ≡ 0 = rw e refl in ap (λ (n : ℕ). words_of (drop n (x ∷ xs))) none

pub after_spaces : (line : List ℕ) → words_of (drop (prefix_len is_space line) line) ≡ words_of line
after_spaces [] = refl
after_spaces (x ∷ xs) = space_first x (eqb x 32) xs refl (after_spaces xs)

-- a list that begins with no space has at least one octet before its first space
nothing_at : (x : ℕ) (b : Bool) (xs : List ℕ) → eqb x 32 ≡ b → b ≡ false → len_to 32 (x ∷ xs) ≡ 0 → ⊥
nothing_at x true xs e other zero_long = absurd cc
nothing_at x false xs e other zero_long = let long : 1 + len_to 32 xs ≡ 0 = rw e at zero_long in absurd (omega (arith, long))

pub no_word : (line : List ℕ) → (length line ≡ 0) ⊎ (is_space (get_or line 0 0) ≡ false) → len_to 32 line ≡ 0 → words_of line ≡ []
unfolding words_of
no_word [] h zero_long = refl
no_word (x ∷ xs) (inl none) zero_long = absurd (omega (arith, none))
no_word (x ∷ xs) (inr start) zero_long = absurd (nothing_at x (eqb x 32) xs refl start zero_long)

-- the first word of a line, and the words of the text after it
pub first_word : (line : List ℕ) (size : ℕ) → size ≡ len_to 32 line → 0 < size → size ≤ length line → words_of line ≡ take size line ∷ words_of (drop size line)
first_word line size e some within =
    let s = splits line in
    let long : 0 < length (take size line) = omega (arith, length-take-le size line within) in
    word_first size line s.others (rw e s.is) long ∙ ap (λ (ws : List Word). take size line ∷ ws) (s.rest ∙ ap (λ (n : ℕ). words_of (drop n line)) (sym e))

-- after the spaces at the front, nothing is left, or no space is next
abbrev StartsWord : List ℕ → Type 0
StartsWord line = (length line ≡ 0) ⊎ (is_space (get_or line 0 0) ≡ false)

starts_at : (x : ℕ) (b : Bool) (xs : List ℕ) → eqb x 32 ≡ b → StartsWord (drop (prefix_len is_space xs) xs) → StartsWord (drop (prefix_len is_space (x ∷ xs)) (x ∷ xs))
starts_at x true xs e h = rw (e, one_more (prefix_len is_space xs)) h
starts_at x false xs e h = rw e (inr e)

starts : (line : List ℕ) → StartsWord (drop (prefix_len is_space line) line)
starts [] = inl refl
starts (x ∷ xs) = starts_at x (eqb x 32) xs refl (starts xs)

-- the words of a line, from the text after the spaces at its front
pub none_there : (line rest : List ℕ) → rest ≡ drop (prefix_len is_space line) line → len_to 32 rest ≡ 0 → words_of line ≡ []
none_there line rest e z = sym (after_spaces line) ∙ ap words_of (sym e) ∙ no_word rest (subst StartsWord (sym e) (starts line)) z

pub one_there : (line rest : List ℕ) (size : ℕ) → rest ≡ drop (prefix_len is_space line) line → size ≡ len_to 32 rest → 0 < size → size ≤ length rest → words_of line ≡ take size rest ∷ words_of (drop size rest)
one_there line rest size e s some within = sym (after_spaces line) ∙ ap words_of (sym e) ∙ first_word rest size s some within
