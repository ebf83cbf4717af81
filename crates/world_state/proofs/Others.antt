-- A list with another item at one place.
use Rattle.std.proofs.Common.{◌≡◌, ◌⊎◌, inl, inr, ℕ, zero, suc, List, [], ◌∷◌, length, refl, sym, ap, subst, ◌∙◌, Option, Some}
use Rattle.std.specs.Prelude.{slice_get, slice_set}

some_is : {A : Type 0} {a b : A} → ◌≡◌ {A = Option A} (Some a) (Some b) → a ≡ b
some_is h = cc

-- Each item of the list is the new one or one that was there before.
pub placed : {A : Type 0} (xs : List A) (i : ℕ) (x : A) (k : ℕ) (y : A) → slice_get (slice_set xs i x) k ≡ Some y →
    ((k ≡ i) × (y ≡ x)) ⊎ ((k ≡ i → ⊥) × (slice_get xs k ≡ Some y))
placed [] i x k y h = inr (λ e. cc, h)
placed (a ∷ xs) zero x zero y h = inl (refl, sym (some_is h))
placed (a ∷ xs) zero x (suc k) y h = inr (λ e. cc, h)
placed (a ∷ xs) (suc i) x zero y h = inr (λ e. cc, h)
placed (a ∷ xs) (suc i) x (suc k) y h = elim (placed xs i x k y h) [
  | inl here ↦ inl (ap suc here.0, here.1)
  | inr there ↦ inr (λ e. there.0 (pred_is k i e), there.1)
] where
  pred_is : (k i : ℕ) → suc k ≡ suc i → k ≡ i
  pred_is k i e = cc

pub set_length : {A : Type 0} (xs : List A) (i : ℕ) (x : A) → length (slice_set xs i x) ≡ length xs
set_length [] i x = refl
set_length (a ∷ xs) zero x = refl
set_length (a ∷ xs) (suc i) x = ap suc (set_length xs i x)

-- the same for a list that is equal to the changed one

pub placed_length : {A : Type 0} (xs ys : List A) (i : ℕ) (x : A) → ys ≡ slice_set xs i x → length ys ≡ length xs
placed_length xs ys i x is = ap length is ∙ set_length xs i x

-- What holds for the new item and for each other one holds for all.
pub each_placed : {A : Type 0} (xs ys : List A) (i : ℕ) (x : A) → ys ≡ slice_set xs i x → (P : ℕ → A → Type 0) → P i x → ((k : ℕ) (y : A) → (k ≡ i → ⊥) → slice_get xs k ≡ Some y → P k y) →
    (k : ℕ) (y : A) → slice_get ys k ≡ Some y → P k y
each_placed {A} xs ys i x is P mine others k y at = elim (placed xs i x k y (ap (λ (zs : List A). slice_get zs k) (sym is) ∙ at)) [
  | inl here ↦ subst (λ (z : A). P k z) (sym here.1) (subst (λ (n : ℕ). P n x) (sym here.0) mine)
  | inr other ↦ others k y other.0 other.1
]

-- If the item of a place is put there again, the list stays the same.
pub put_back : {A : Type 0} (xs : List A) (i : ℕ) (x y : A) → slice_get xs i ≡ Some x → y ≡ x → slice_set xs i y ≡ xs
put_back [] i x y at same = refl
put_back (a ∷ xs) zero x y at same = ap (λ z. z ∷ xs) (same ∙ sym (some_is at))
put_back (a ∷ xs) (suc i) x y at same = ap (λ zs. a ∷ zs) (put_back xs i x y at same)
