-- No two keys of a text are equal, and an empty text lists none.
use Rattle.std.proofs.Common.{◌≡◌, ℕ, ◌+◌, ◌<◌, Bool, true, false, ◌||◌, cond, eqb, List, [], ◌∷◌, ◌++◌, length, get_or, Option, Some, None, Ok, refl, sym, ap, subst, ◌∙◌, inl, inr, arith, eq-eqb, length-append}
use Rattle.std.proofs.Math.ListN.{get_or-append}
use Rattle.std.proofs.Math.Seq.{get_or-append_seam}
use Rattle.std.proofs.lemmas.Bool.{cases_lt}
use Rattle.std.proofs.lemmas.List.Folds.{list_any_at}
use Rattle.std.specs.Str.Lines.{lines}
use Rattle.tag_bound.specs.Keys.{AreDistinct}
use Rattle.tag_bound.specs.Words.{number_of}
use Rattle.tag_bound.specs.KeyLines.{Meaning, is_among, key_behind, then_key, keys_from, keys_of}

pub distinct_more : (keys : List ℕ) (key : ℕ) → AreDistinct keys → is_among keys key ≡ false → AreDistinct (keys ++ key ∷ [])
distinct_more keys key distinct new place repeat =
    let earlier = repeat.1.0 in
    let within : place < length keys + 1 = omega (arith, repeat.0, length-append keys (key ∷ [])) in
    let before : earlier < length keys = omega (arith, repeat.1.1, within) in
    let left : get_or keys earlier 0 ≡ get_or (keys ++ key ∷ []) place 0 = sym (get_or-append keys (key ∷ []) 0 earlier before) ∙ repeat.1.2 in
    elim (cases_lt place (length keys)) [
      | inl less ↦ distinct place (less, (earlier, repeat.1.1, left ∙ get_or-append keys (key ∷ []) 0 place less))
      | inr le ↦
          let here : place ≡ length keys = omega arith in
          let same : get_or keys earlier 0 ≡ key = left ∙ ap (λ (n : ℕ). get_or (keys ++ key ∷ []) n 0) here ∙ get_or-append_seam keys key [] 0 in
          let found : is_among keys key ≡ true = list_any_at (λ k. eqb k key) keys earlier 0 before (eq-eqb (get_or keys earlier 0) key same) in
          absurd (let no : true ≡ false = sym found ∙ new in (cc))
    ]

chosen : (a b : Bool) (k key : ℕ) → cond (a || b) None (Some k) ≡ Some key → (a ≡ false) × (k ≡ key)
chosen true b k key h = absurd cc
chosen false true k key h = absurd cc
chosen false false k key h = (refl, cc)

pub fresh : (keys : List ℕ) (given : Option ℕ) (key : ℕ) → key_behind keys given ≡ Some key → is_among keys key ≡ false
fresh keys None key h = absurd cc
fresh keys (Some k) key h = let at = chosen (is_among keys k) _ k key h in ap (is_among keys) (sym at.1) ∙ at.0

pub then_ok : (keys : List ℕ) (key : Option ℕ) (follows : List ℕ → Meaning) (all : List ℕ) → then_key keys key follows ≡ Ok all →
    (k : ℕ) × (key ≡ Some k) × (follows (keys ++ k ∷ []) ≡ Ok all)
then_ok keys None follows all h = absurd cc
then_ok keys (Some k) follows all h = (k, refl, h)

pub distinct_from : (keys : List ℕ) (more : List (List ℕ)) (all : List ℕ) → AreDistinct keys → keys_from keys more ≡ Ok all → AreDistinct all
distinct_from keys [] all distinct means = let e : keys ≡ all = cc in subst AreDistinct e distinct
distinct_from keys (line ∷ more) all distinct means =
    let at = then_ok keys (key_behind keys (number_of line)) (λ now. keys_from now more) all means in
    distinct_from (keys ++ at.0 ∷ []) more all (distinct_more keys at.0 distinct (fresh keys (number_of line) at.0 at.1)) at.2

pub keys_distinct : (text keys : List ℕ) → keys_of text ≡ Ok keys → AreDistinct keys
unfolding keys_of
keys_distinct text keys means = distinct_from [] (lines text) keys (λ place repeat. absurd (omega (arith, repeat.0))) means

pub some_text : (text keys : List ℕ) → keys_of text ≡ Ok keys → 0 < length keys → 0 < length text
unfolding keys_of
some_text [] keys means some = let none : [] ≡ keys = cc in omega (arith, ap length none)
some_text (b ∷ text) keys means some = omega arith
