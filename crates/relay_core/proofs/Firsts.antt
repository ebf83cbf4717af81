-- Lemmas on the first item that passes a test.
use Rattle.std.proofs.Common.{◌≡◌, ℕ, zero, suc, ◌+◌, ◌<◌, Bool, true, false, cond, ◌||◌, List, [], ◌∷◌, ◌++◌, length, refl, sym, ◌∙◌, ap, arith, Some, None, ◌⊎◌, inl, inr, get_or}
use Rattle.std.specs.Prelude.{slice_get, find, is_some, if◌then◌else◌}
use Rattle.std.specs.List.{position_from, list_any}
use Rattle.relay_core.specs.Firsts.{IsFirstFrom, IsNoneFrom}

pub not_true : (b : Bool) → (b ≡ true → ⊥) → b ≡ false
not_true true h = absurd (h refl)
not_true false h = refl

pub get_within : {A : Type 0} (xs : List A) (i : ℕ) (x : A) → slice_get xs i ≡ Some x → i < length xs
get_within [] i x h = cc
get_within (y ∷ ys) zero x h = omega arith
get_within (y ∷ ys) (suc i) x h = let lt = get_within ys i x h in omega arith

-- An item read from inside a list stands at that place.
pub got : {A : Type 0} (xs : List A) (i : ℕ) (x : A) → i < length xs → x ≡ get_or xs i x → slice_get xs i ≡ Some x
got [] i x lt e = absurd (omega arith)
got (y ∷ ys) zero x lt e = ap Some (sym e)
got (y ∷ ys) (suc i) x lt e = got ys i x (omega arith) e

-- Items inside a list stay at their places when the list gets longer at its end.

pub get_prefix : {A : Type 0} (xs ys : List A) (i : ℕ) → i < length xs → slice_get (xs ++ ys) i ≡ slice_get xs i
get_prefix [] ys i h = absurd (omega arith)
get_prefix (x ∷ xs) ys zero h = refl
get_prefix (x ∷ xs) ys (suc i) h = get_prefix xs ys i (omega arith)

pub get_end : {A : Type 0} (xs : List A) (y : A) → slice_get (xs ++ y ∷ []) (length xs) ≡ Some y
get_end [] y = refl
get_end (x ∷ xs) y = get_end xs y

pub get_push : {A : Type 0} (xs : List A) (y z : A) (i : ℕ) → slice_get (xs ++ y ∷ []) i ≡ Some z →
    ((i < length xs) × (slice_get xs i ≡ Some z)) ⊎ ((i ≡ length xs) × (y ≡ z))
get_push [] y z zero h = inr (refl, cc)
get_push [] y z (suc i) h = cc
get_push (x ∷ xs) y z zero h = inl (omega arith, h)
get_push (x ∷ xs) y z (suc i) h = elim (get_push xs y z i h) [
  | inl (lt, g) ↦ inl (omega arith, g)
  | inr (e, g) ↦ inr (omega arith, g)
]

-- Where the search starts after the first item, the first item doesn't matter.

shifted : {A : Type 0} (t : A → Bool) (y : A) (ys : List A) (i : ℕ) → IsFirstFrom t (y ∷ ys) 0 (suc i) → (t y ≡ false) × IsFirstFrom t ys 0 i
shifted t y ys i first = (
  first.before 0 y (omega arith) (omega arith) refl,
  record {
    behind = omega arith;
    item = first.item;
    there = first.there;
    passes = first.passes;
    before = λ p x lt gt g. first.before (suc p) x (omega arith) (omega arith) g;
  },
)

hit : {A : Type 0} (t : A → Bool) (y : A) (ys : List A) → IsFirstFrom t (y ∷ ys) 0 0 → t y ≡ true
hit t y ys first = let same : y ≡ first.item = (let h = first.there in cc) in ap t same ∙ first.passes

pub first_find : {A : Type 0} (t : A → Bool) (xs : List A) (i : ℕ) → IsFirstFrom t xs 0 i → find t xs ≡ slice_get xs i
first_find t [] i first = let h = first.there in cc
first_find t (y ∷ ys) zero first = ap (λ (b : Bool). if b then Some y else find t ys) (hit t y ys first)
first_find t (y ∷ ys) (suc i) first =
    let s = shifted t y ys i first in
    ap (λ (b : Bool). if b then Some y else find t ys) s.0 ∙ first_find t ys i s.1

pub first_position : {A : Type 0} (t : A → Bool) (xs : List A) (k i : ℕ) → IsFirstFrom t xs 0 i → position_from t k xs ≡ Some (k + i)
first_position t [] k i first = let h = first.there in cc
first_position t (y ∷ ys) k zero first =
    let e : k ≡ k + 0 = omega arith in
    ap (λ (b : Bool). cond b (Some k) (position_from t (k + 1) ys)) (hit t y ys first) ∙ ap Some e
first_position t (y ∷ ys) k (suc i) first =
    let s = shifted t y ys i first in
    let e : k + 1 + i ≡ k + suc i = omega arith in
    ap (λ (b : Bool). cond b (Some k) (position_from t (k + 1) ys)) s.0 ∙ first_position t ys (k + 1) i s.1 ∙ ap Some e

pub first_any : {A : Type 0} (t : A → Bool) (xs : List A) (i : ℕ) → IsFirstFrom t xs 0 i → list_any t xs ≡ true
first_any t [] i first = let h = first.there in cc
first_any t (y ∷ ys) zero first = ap (λ (b : Bool). b || list_any t ys) (hit t y ys first)
first_any t (y ∷ ys) (suc i) first =
    let s = shifted t y ys i first in
    ap (λ (b : Bool). b || list_any t ys) s.0 ∙ first_any t ys i s.1

rest_none : {A : Type 0} (t : A → Bool) (y : A) (ys : List A) → IsNoneFrom t (y ∷ ys) 0 → (t y ≡ false) × IsNoneFrom t ys 0
rest_none t y ys none = (none.none 0 y (omega arith) refl, record { none = λ p x lt g. none.none (suc p) x (omega arith) g })

pub none_find : {A : Type 0} (t : A → Bool) (xs : List A) → IsNoneFrom t xs 0 → find t xs ≡ None
none_find t [] none = refl
none_find t (y ∷ ys) none = let s = rest_none t y ys none in ap (λ (b : Bool). if b then Some y else find t ys) s.0 ∙ none_find t ys s.1

pub none_position : {A : Type 0} (t : A → Bool) (xs : List A) (k : ℕ) → IsNoneFrom t xs 0 → position_from t k xs ≡ None
none_position t [] k none = refl
none_position t (y ∷ ys) k none = let s = rest_none t y ys none in ap (λ (b : Bool). cond b (Some k) (position_from t (k + 1) ys)) s.0 ∙ none_position t ys (k + 1) s.1

pub none_any : {A : Type 0} (t : A → Bool) (xs : List A) → IsNoneFrom t xs 0 → list_any t xs ≡ false
none_any t [] none = refl
none_any t (y ∷ ys) none = let s = rest_none t y ys none in ap (λ (b : Bool). b || list_any t ys) s.0 ∙ none_any t ys s.1

-- If an item passes the test, some item of the list passes it.

pub any_at : {A : Type 0} (t : A → Bool) (xs : List A) (i : ℕ) (x : A) → slice_get xs i ≡ Some x → t x ≡ true → list_any t xs ≡ true
any_at t [] i x g h = cc
any_at t (y ∷ ys) zero x g h = let same : y ≡ x = cc in ap (λ (b : Bool). b || list_any t ys) (ap t same ∙ h)
any_at t (y ∷ ys) (suc i) x g h = elim (t y) as (λ b. (b || list_any t ys) ≡ true) [ true ↦ refl | false ↦ any_at t ys i x g h ]

pub find_hits : {A : Type 0} (t : A → Bool) (xs : List A) (j : ℕ) (y : A) → slice_get xs j ≡ Some y → t y ≡ true → is_some (find t xs) ≡ true
find_hits t [] j y h p = cc
find_hits t (x ∷ xs) zero y h p = let same : x ≡ y = cc in ap (λ (b : Bool). is_some (if b then Some x else find t xs)) (ap t same ∙ p)
find_hits t (x ∷ xs) (suc j) y h p = elim (t x) as (λ b. is_some (if b then Some x else find t xs) ≡ true) [ true ↦ refl | false ↦ find_hits t xs j y h p ]
