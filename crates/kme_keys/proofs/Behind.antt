-- The items of a list that pass a test, from a place on.
use Rattle.std.proofs.Common.{◌≡◌, ℕ, zero, suc, ◌+◌, ◌<◌, ◌≤◌, Bool, true, false, cond, List, [], ◌∷◌, length, refl, sym, ◌∙◌, ap, arith, drop, drop-cons, get_or, Some}
use Rattle.std.specs.Prelude.{slice_get, filter}
use Rattle.relay_core.specs.Firsts.{IsFirstFrom, IsNoneFrom}

abbrev pub passing : {A : Type 0} → (A → Bool) → List A → ℕ → List A
passing t xs from = filter t (drop from xs)

module _ {A : Type 0} (t : A → Bool) where
  none_all : (xs : List A) → ((p : ℕ) (x : A) → slice_get xs p ≡ Some x → t x ≡ false) → filter t xs ≡ []
  none_all [] none = refl
  none_all (x ∷ xs) none = ap (λ (b : Bool). cond b (x ∷ filter t xs) (filter t xs)) (none 0 x refl) ∙ none_all xs (λ p y g. none (suc p) y g)

  pub none_behind : (xs : List A) (from : ℕ) → IsNoneFrom t xs from → passing t xs from ≡ []
  none_behind xs zero none = none_all xs (λ p x g. none.none p x (omega arith) g)
  none_behind [] (suc from) none = refl
  none_behind (x ∷ xs) (suc from) none = none_behind xs from (record { none = λ p y le g. none.none (suc p) y (omega arith) g })

  front : (xs : List A) (place : ℕ) (item : A) → slice_get xs place ≡ Some item → t item ≡ true → ((p : ℕ) (x : A) → p < place → slice_get xs p ≡ Some x → t x ≡ false) →
      filter t xs ≡ item ∷ passing t xs (place + 1)
  front [] place item there passes before = cc
  front (x ∷ xs) zero item there passes before =
      let same : x ≡ item = cc in
      ap (λ (b : Bool). cond b (x ∷ filter t xs) (filter t xs)) (ap t same ∙ passes) ∙ ap (λ (y : A). y ∷ filter t xs) same
  front (x ∷ xs) (suc place) item there passes before =
      let e : suc (place + 1) ≡ suc place + 1 = omega arith in
      ap (λ (b : Bool). cond b (x ∷ filter t xs) (filter t xs)) (before 0 x (omega arith) refl)
      ∙ front xs place item there passes (λ p y lt g. before (suc p) y (omega arith) g)
      ∙ ap (λ (k : ℕ). item ∷ filter t (drop k (x ∷ xs))) e

  pub first_behind : (xs : List A) (from place : ℕ) (first : IsFirstFrom t xs from place) → passing t xs from ≡ first.item ∷ passing t xs (place + 1)
  first_behind xs zero place first = front xs place first.item first.there first.passes (λ p x lt g. first.before p x (omega arith) lt g)
  first_behind [] (suc from) place first = let h = first.there in cc
  first_behind (x ∷ xs) (suc from) zero first = absurd (let h = first.behind in omega arith)
  first_behind (x ∷ xs) (suc from) (suc place) first =
      let h = first.behind in
      let e : suc (place + 1) ≡ suc place + 1 = omega arith in
      first_behind xs from place (record {
        behind = omega arith;
        item = first.item;
        there = first.there;
        passes = first.passes;
        before = λ p y le lt g. first.before (suc p) y (omega arith) (omega arith) g;
      })
      ∙ ap (λ (k : ℕ). first.item ∷ filter t (drop k (x ∷ xs))) e

  pub past_end : (xs : List A) (from : ℕ) → length xs ≤ from → passing t xs from ≡ []
  past_end [] zero le = refl
  past_end [] (suc from) le = refl
  past_end (x ∷ xs) zero le = absurd (omega arith)
  past_end (x ∷ xs) (suc from) le = past_end xs from (omega arith)

-- the rest of a list is the item at the loop's index, followed by the later ones
pub at_index : {A : Type 0} (xs : List A) (i : ℕ) (x : A) → i < length xs → x ≡ get_or xs i x → drop i xs ≡ x ∷ drop (i + 1) xs
at_index xs i x lt is = let e : suc i ≡ i + 1 = omega arith in drop-cons xs i x lt ∙ (λ j. sym is j ∷ drop (e j) xs)

pub past_all : {A : Type 0} (xs : List A) (i : ℕ) → length xs ≤ i → drop i xs ≡ []
past_all [] zero le = refl
past_all [] (suc i) le = refl
past_all (x ∷ xs) zero le = absurd (omega arith)
past_all (x ∷ xs) (suc i) le = past_all xs i (omega arith)
