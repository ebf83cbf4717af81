-- A line that joins clean words by single spaces splits into the same words again. A clean word has printable octets and no space.
use Rattle.std.proofs.Common.{◌≡◌, ℕ, zero, suc, ◌-◌, Bool, true, false, ◌&&◌, eqb, List, [], ◌∷◌, ◌++◌, length, get_or, filter, refl, sym, ap, ◌∙◌, append-nil, arith, rules, inl, inr}
use Rattle.std.specs.Prelude.{◌⊎◌, nat_le}
use Rattle.std.specs.List.{list_all, slice_split, All}
use Rattle.std.specs.Str.Lines.{strip_carriage_return}
use Rattle.std.proofs.lemmas.List.Folds.{list_all-append}
use Rattle.std.proofs.lemmas.List.Splits.{slice_split_at, slice_split_none}
use Rattle.scenario_text.specs.Words.{Word, is_space, is_word, words_of}
use Rattle.scenario_text.specs.Line.{is_printable}
use Rattle.scenario_format.specs.Spelling.{spaced}

-- An octet that may stand in a word: printable, and no space.
abbrev pub is_inner : ℕ → Bool
is_inner b = nat_le 33 b && nat_le b 126

abbrev pub is_clean : Word → Bool
is_clean [] = false
is_clean (b ∷ bs) = is_inner b && list_all is_inner bs

abbrev pub are_clean : List Word → Bool
are_clean ws = list_all is_clean ws

pub and_left : (a b : Bool) → (a && b) ≡ true → a ≡ true
and_left true b h = refl
and_left false b h = h

pub and_right : (a b : Bool) → (a && b) ≡ true → b ≡ true
and_right true b h = h
and_right false b h = cc

pub and_both : (a b : Bool) → a ≡ true → b ≡ true → (a && b) ≡ true
and_both a b h g = rw (h, g) refl

no_space : (b : ℕ) → is_inner b ≡ true → is_space b ≡ false
no_space b h = grind arith

prints : (b : ℕ) → is_inner b ≡ true → is_printable b ≡ true
prints b h = grind arith

pub inner_all : (w : Word) → is_clean w ≡ true → list_all is_inner w ≡ true
inner_all [] h = cc
inner_all (b ∷ bs) h = h

no_spaces : (bs : List ℕ) → list_all is_inner bs ≡ true → All (λ b. is_space b ≡ false) bs
no_spaces [] h k d lt = absurd (omega arith)
no_spaces (b ∷ bs) h zero d lt = no_space b (and_left (is_inner b) (list_all is_inner bs) h)
no_spaces (b ∷ bs) h (suc k) d lt = no_spaces bs (and_right (is_inner b) (list_all is_inner bs) h) k d (omega arith)

split_is : (w : Word) (ws : List Word) → is_clean w ≡ true → are_clean ws ≡ true → slice_split is_space (w ++ spaced ws) ≡ w ∷ ws
split_is w [] h hs = ap (slice_split is_space) (append-nil w) ∙ slice_split_none is_space w (no_spaces w (inner_all w h))
split_is w (v ∷ ws) h hs =
    slice_split_at is_space w 32 (v ++ spaced ws) (no_spaces w (inner_all w h)) refl
    ∙ ap (λ (rest : List Word). w ∷ rest) (split_is v ws (and_left (is_clean v) (are_clean ws) hs) (and_right (is_clean v) (are_clean ws) hs))

suc_no : (k : ℕ) → eqb (suc k) 0 ≡ false
suc_no k = search rules

clean_word : (w : Word) → is_clean w ≡ true → is_word w ≡ true
clean_word [] h = cc
clean_word (b ∷ bs) h = rw (suc_no (length bs)) refl

all_words : (ws : List Word) → are_clean ws ≡ true → filter is_word ws ≡ ws
all_words [] h = refl
all_words (w ∷ ws) h = rw (clean_word w (and_left (is_clean w) (are_clean ws) h), all_words ws (and_right (is_clean w) (are_clean ws) h)) refl

pub words_are : (w : Word) (ws : List Word) → is_clean w ≡ true → are_clean ws ≡ true → words_of (w ++ spaced ws) ≡ w ∷ ws
unfolding words_of
words_are w ws h hs = ap (filter is_word) (split_is w ws h hs) ∙ all_words (w ∷ ws) (and_both (is_clean w) (are_clean ws) h hs)

-- ---- the last octet of a line

abbrev last : List ℕ → ℕ
last [] = 0
last (b ∷ []) = b
last (b ∷ c ∷ cs) = last (c ∷ cs)

less_one : (n : ℕ) → suc (suc n) - 1 ≡ suc n
less_one n = omega arith

last_is : (bs : List ℕ) → get_or bs (length bs - 1) 0 ≡ last bs
last_is [] = refl
last_is (b ∷ []) = refl
last_is (b ∷ c ∷ cs) =
    let here : get_or (b ∷ c ∷ cs) (length (b ∷ c ∷ cs) - 1) 0 ≡ get_or (c ∷ cs) (length cs) 0 = rw (less_one (length cs)) refl in
    let there : get_or (c ∷ cs) (length (c ∷ cs) - 1) 0 ≡ get_or (c ∷ cs) (length cs) 0 = ap (λ (n : ℕ). get_or (c ∷ cs) n 0) (omega arith) in
    here ∙ sym there ∙ last_is (c ∷ cs)

last_behind : (xs : List ℕ) (b : ℕ) (bs : List ℕ) → last (xs ++ b ∷ bs) ≡ last (b ∷ bs)
last_behind [] b bs = refl
last_behind (a ∷ []) b bs = refl
last_behind (a ∷ c ∷ xs) b bs = last_behind (c ∷ xs) b bs

last_inner : (w : Word) → is_clean w ≡ true → is_inner (last w) ≡ true
last_inner [] h = cc
last_inner (b ∷ []) h = and_left (is_inner b) true h
last_inner (b ∷ c ∷ cs) h = last_inner (c ∷ cs) (and_right (is_inner b) (list_all is_inner (c ∷ cs)) h)

last_of_words : (w : Word) (ws : List Word) → is_clean w ≡ true → are_clean ws ≡ true → is_inner (last (w ++ spaced ws)) ≡ true
last_of_words w [] h hs = rw (append-nil w) (last_inner w h)
last_of_words w ([] ∷ ws) h hs = absurd cc
last_of_words w ((b ∷ bs) ∷ ws) h hs =
    let e : last (w ++ 32 ∷ ((b ∷ bs) ++ spaced ws)) ≡ last ((b ∷ bs) ++ spaced ws) = last_behind w 32 ((b ∷ bs) ++ spaced ws) in
    rw e (last_of_words (b ∷ bs) ws (and_left (is_clean (b ∷ bs)) (are_clean ws) hs) (and_right (is_clean (b ∷ bs)) (are_clean ws) hs))

no_end : (b c : ℕ) → is_inner b ≡ true → (c ≡ 32) ⊎ (c ≡ 13) → eqb b c ≡ false
no_end b c h (inl e) = grind arith
no_end b c h (inr e) = grind arith

-- The last octet of a line of clean words is neither a space nor a carriage return.
pub ends_so : (w : Word) (ws : List Word) (c : ℕ) → is_clean w ≡ true → are_clean ws ≡ true → (c ≡ 32) ⊎ (c ≡ 13) → eqb (get_or (w ++ spaced ws) (length (w ++ spaced ws) - 1) 0) c ≡ false
ends_so w ws c h hs e = rw (last_is (w ++ spaced ws)) (no_end (last (w ++ spaced ws)) c (last_of_words w ws h hs) e)

pub no_return : (w : Word) (ws : List Word) → is_clean w ≡ true → are_clean ws ≡ true → strip_carriage_return (w ++ spaced ws) ≡ w ++ spaced ws
no_return w ws h hs = rw (ends_so w ws 13 h hs (inr refl)) refl

-- ---- printable octets

printable_word : (bs : List ℕ) → list_all is_inner bs ≡ true → list_all is_printable bs ≡ true
printable_word [] h = refl
printable_word (b ∷ bs) h = and_both (is_printable b) (list_all is_printable bs) (prints b (and_left (is_inner b) (list_all is_inner bs) h)) (printable_word bs (and_right (is_inner b) (list_all is_inner bs) h))

printable_rest : (ws : List Word) → are_clean ws ≡ true → list_all is_printable (spaced ws) ≡ true
printable_rest [] h = refl
printable_rest (w ∷ ws) h =
    list_all-append is_printable w (spaced ws)
    ∙ and_both (list_all is_printable w) (list_all is_printable (spaced ws)) (printable_word w (inner_all w (and_left (is_clean w) (are_clean ws) h))) (printable_rest ws (and_right (is_clean w) (are_clean ws) h))

pub prints_all : (w : Word) (ws : List Word) → is_clean w ≡ true → are_clean ws ≡ true → list_all is_printable (w ++ spaced ws) ≡ true
prints_all w ws h hs =
    list_all-append is_printable w (spaced ws)
    ∙ and_both (list_all is_printable w) (list_all is_printable (spaced ws)) (printable_word w (inner_all w h)) (printable_rest ws hs)

-- A printable octet is no line feed.
no_feed : (b : ℕ) → is_printable b ≡ true → eqb b 10 ≡ false
no_feed b h = grind arith

pub no_feeds : (bs : List ℕ) → list_all is_printable bs ≡ true → All (λ b. eqb b 10 ≡ false) bs
no_feeds [] h k d lt = absurd (omega arith)
no_feeds (b ∷ bs) h zero d lt = no_feed b (and_left (is_printable b) (list_all is_printable bs) h)
no_feeds (b ∷ bs) h (suc k) d lt = no_feeds bs (and_right (is_printable b) (list_all is_printable bs) h) k d (omega arith)
