-- Lemmas on counting the items of a list.
use Rattle.std.proofs.Common.{◌≡◌, ℕ, suc, ◌+◌, ◌≤◌, Bool, true, false, ◌||◌, List, [], ◌∷◌, ◌++◌, refl, ap, arith, Some}
use Rattle.std.specs.Prelude.{count_by, map, filter, slice_get}
use Rattle.std.specs.List.{list_any}
use Rattle.law_base.proofs.Base.{by_test}
use Rattle.law_locality.proofs.Counting.{one_if, count_more}

pub count_joined : {A : Type 0} (p : A → Bool) (xs ys : List A) → count_by p (xs ++ ys) ≡ count_by p xs + count_by p ys
count_joined p [] ys = omega arith
count_joined p (x ∷ xs) ys =
    let a = count_more p x (xs ++ ys) in
    let b = count_more p x xs in
    let rest = count_joined p xs ys in
    omega (arith, a, b, rest)

pub count_kept : {A : Type 0} (p q : A → Bool) (xs : List A) → count_by p (filter q xs) ≤ count_by p xs
count_kept p q [] = omega arith
count_kept {A} p q (x ∷ xs) =
    let rest = count_kept p q xs in
    let all = count_more p x xs in
    by_test (λ (ys : List A). count_by p ys ≤ count_by p (x ∷ xs)) (q x) (x ∷ filter q xs) (filter q xs)
    (λ e. let here = count_more p x (filter q xs) in omega (arith, rest, all, here)) (λ e. omega (arith, rest, all))

pub count_changed : {A : Type 0} (p : A → Bool) (g : A → A) → ((x : A) → p (g x) ≡ p x) → (xs : List A) → count_by p (map g xs) ≡ count_by p xs
count_changed p g same [] = refl
count_changed p g same (x ∷ xs) =
    let one : one_if (p (g x)) ≡ one_if (p x) = ap one_if (same x) in
    let a = count_more p (g x) (map g xs) in
    let b = count_more p x xs in
    let rest = count_changed p g same xs in
    omega (arith, one, a, b, rest)

-- Where an item is counted, the count isn't zero.
pub none_there : {A : Type 0} (p : A → Bool) (xs : List A) → count_by p xs ≡ 0 → list_any p xs ≡ false
none_there p [] h = refl
none_there p (x ∷ xs) h =
    let all = count_more p x xs in
    elim (p x) as (λ t. p x ≡ t → (t || list_any p xs) ≡ false) [
      | true ↦ λ e. let one : one_if (p x) ≡ 1 = ap one_if e in absurd (omega (arith, h, all, one))
      | false ↦ λ e. none_there p xs (let none : one_if (p x) ≡ 0 = ap one_if e in omega (arith, h, all, none))
    ] refl

pub count_zero : {A : Type 0} (p : A → Bool) (xs : List A) → ((i : ℕ) (x : A) → slice_get xs i ≡ Some x → p x ≡ false) → count_by p xs ≡ 0
count_zero p [] h = refl
count_zero p (x ∷ xs) h =
    let one : one_if (p x) ≡ 0 = ap one_if (h 0 x refl) in
    let all = count_more p x xs in
    let rest = count_zero p xs (λ i y at. h (suc i) y at) in
    omega (arith, one, all, rest)

pub count_agree : {A : Type 0} (p q : A → Bool) (xs : List A) → ((i : ℕ) (x : A) → slice_get xs i ≡ Some x → p x ≡ q x) → count_by p xs ≡ count_by q xs
count_agree p q [] h = refl
count_agree p q (x ∷ xs) h =
    let one : one_if (p x) ≡ one_if (q x) = ap one_if (h 0 x refl) in
    let a = count_more p x xs in
    let b = count_more q x xs in
    let rest = count_agree p q xs (λ i y at. h (suc i) y at) in
    omega (arith, one, a, b, rest)
