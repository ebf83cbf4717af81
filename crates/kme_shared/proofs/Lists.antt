-- Lists, item by item and part by part.
use Rattle.std.proofs.Common.{◌≡◌, ℕ, zero, suc, ◌+◌, ◌<◌, Bool, true, false, List, [], ◌∷◌, ◌++◌, length, map, refl, sym, ◌∙◌, ap, ap₂, subst, arith, Option, Some}
use Rattle.std.specs.Prelude.{◌==◌, cond, filter, slice_get}
use Rattle.std.specs.List.{AllByRecursion, flat_map}
use Rattle.std.specs.List.Sorted.{IsPermutation}
use Rattle.std.proofs.lemmas.List.{map-append}
use Rattle.std.proofs.lemmas.List.Elements.{All-from_recursion, filter-append, recursion_from_All}
use Rattle.std.proofs.lemmas.List.Sorted.{All-permutation}
use Rattle.law_base.proofs.Base.{eq_same}
use Rattle.law_base.proofs.Lists.{all_both}

pub some_is : {A : Type 0} {a b : A} → ◌≡◌ {A = Option A} (Some a) (Some b) → a ≡ b
some_is h = cc

-- a map of a map

pub fused : {A B C : Type 0} (f : B → C) (g : A → B) (xs : List A) → map f (map g xs) ≡ map (λ x. f (g x)) xs
fused f g [] = refl
fused {A} {B} {C} f g (x ∷ xs) = ap (λ (ys : List C). f (g x) ∷ ys) (fused f g xs)

pub all_fused : {A B C : Type 0} (f : B → C) (g : A → B) (xss : List (List A)) → map (map f) (map (map g) xss) ≡ map (map (λ x. f (g x))) xss
all_fused f g [] = refl
all_fused {A} {B} {C} f g (xs ∷ xss) = ap₂ (λ (ys : List C) (yss : List (List C)). ys ∷ yss) (fused f g xs) (all_fused f g xss)

pub flat_mapped : {A B : Type 0} (f : A → B) (xss : List (List A)) → flat_map (λ (xs : List B). xs) (map (map f) xss) ≡ map f (flat_map (λ (xs : List A). xs) xss)
flat_mapped f [] = refl
flat_mapped {A} {B} f (xs ∷ xss) = ap (λ (ys : List B). map f xs ++ ys) (flat_mapped f xss) ∙ sym (map-append f xs (flat_map (λ (ys : List A). ys) xss))

pub flat_listed : {A B : Type 0} (f : A → List B) (xs : List A) → flat_map f xs ≡ flat_map (λ (ys : List B). ys) (map f xs)
flat_listed f [] = refl
flat_listed {A} {B} f (x ∷ xs) = ap (λ (ys : List B). f x ++ ys) (flat_listed f xs)

pub flat_kept : {A : Type 0} (p : A → Bool) (xss : List (List A)) → filter p (flat_map (λ (xs : List A). xs) xss) ≡ flat_map (λ (xs : List A). xs) (map (filter p) xss)
flat_kept p [] = refl
flat_kept {A} p (xs ∷ xss) = filter-append p xs (flat_map (λ (ys : List A). ys) xss) ∙ ap (λ (ys : List A). filter p xs ++ ys) (flat_kept p xss)

pub map_flat : {A B : Type 0} (g : B → A) {C : Type 0} (f : C → List B) (xs : List C) → map g (flat_map f xs) ≡ flat_map (λ x. map g (f x)) xs
map_flat g f [] = refl
map_flat {A} g f (x ∷ xs) = map-append g (f x) (flat_map f xs) ∙ ap (λ (ys : List A). map g (f x) ++ ys) (map_flat g f xs)

-- a property of all items of a list

pub to_map : {A B : Type 0} (P : B → Type 0) (f : A → B) (xs : List A) → AllByRecursion (λ x. P (f x)) xs → AllByRecursion P (map f xs)
to_map P f [] h = tt
to_map P f (x ∷ xs) h = (h.0, to_map P f xs h.1)

pub from_map : {A B : Type 0} (P : B → Type 0) (f : A → B) (xs : List A) → AllByRecursion P (map f xs) → AllByRecursion (λ x. P (f x)) xs
from_map P f [] h = tt
from_map P f (x ∷ xs) h = (h.0, from_map P f xs h.1)

pub to_maps : {A B : Type 0} (P : B → Type 0) (f : A → B) (xss : List (List A)) → AllByRecursion (AllByRecursion (λ x. P (f x))) xss → AllByRecursion (AllByRecursion P) (map (map f) xss)
to_maps P f [] h = tt
to_maps P f (xs ∷ xss) h = (to_map P f xs h.0, to_maps P f xss h.1)

pub from_maps : {A B : Type 0} (P : B → Type 0) (f : A → B) (xss : List (List A)) → AllByRecursion (AllByRecursion P) (map (map f) xss) → AllByRecursion (AllByRecursion (λ x. P (f x))) xss
from_maps P f [] h = tt
from_maps P f (xs ∷ xss) h = (from_map P f xs h.0, from_maps P f xss h.1)

pub all_flat : {A : Type 0} (P : A → Type 0) (xss : List (List A)) → AllByRecursion (AllByRecursion P) xss → AllByRecursion P (flat_map (λ (xs : List A). xs) xss)
all_flat P [] h = tt
all_flat {A} P (xs ∷ xss) h = all_both P xs (flat_map (λ (ys : List A). ys) xss) h.0 (all_flat P xss h.1)

pub all_moved : {A : Type 0} (P : A → Type 0) (xs ys : List A) → IsPermutation xs ys → AllByRecursion P xs → AllByRecursion P ys
all_moved P xs ys p h = recursion_from_All P ys (All-permutation P xs ys p (All-from_recursion P xs h))

-- if the items of each number have a property, then all items have it
module _ {A : Type 0} (number : A → ℕ) (P : ℕ → A → Type 0) where
  abbrev Part : ℕ → List A → List A
  Part v xs = filter (λ x. number x == v) xs

  rest_part : (v : ℕ) (x : A) (xs : List A) → AllByRecursion (P v) (Part v (x ∷ xs)) → AllByRecursion (P v) (Part v xs)
  rest_part v x xs = elim (number x == v) as (λ t. AllByRecursion (P v) (cond t (x ∷ Part v xs) (Part v xs)) → AllByRecursion (P v) (Part v xs)) [
    | true ↦ λ h. h.1
    | false ↦ λ h. h
  ]

  pub all_parts : (n : ℕ) (xs : List A) → AllByRecursion (λ x. number x < n) xs → ((v : ℕ) → v < n → AllByRecursion (P v) (Part v xs)) → AllByRecursion (λ x. P (number x) x) xs
  all_parts n [] below h = tt
  all_parts n (x ∷ xs) below h =
      let here : AllByRecursion (P (number x)) (x ∷ Part (number x) xs) =
      subst (λ (t : Bool). AllByRecursion (P (number x)) (cond t (x ∷ Part (number x) xs) (Part (number x) xs))) (eq_same (number x)) (h (number x) below.0) in
      (here.0, all_parts n xs below.1 (λ v lt. rest_part v x xs (h v lt)))

-- lists that are given item by item

-- a list is the map of another if each of its items is
pub mapped_is : {A B : Type 0} (f : A → B) (xs : List A) (ys : List B) → length xs ≡ length ys → ((i : ℕ) (x : A) → slice_get xs i ≡ Some x → slice_get ys i ≡ Some (f x)) → map f xs ≡ ys
mapped_is f [] [] long h = refl
mapped_is f [] (y ∷ ys) long h = absurd (omega (arith, long))
mapped_is f (x ∷ xs) [] long h = absurd (omega (arith, long))
mapped_is {A} {B} f (x ∷ xs) (y ∷ ys) long h =
    let first : y ≡ f x = some_is (h 0 x refl) in
    ap₂ (λ (z : B) (zs : List B). z ∷ zs) (sym first) (mapped_is f xs ys (omega (arith, long)) (λ i z at. h (suc i) z at))

-- a list of `n` items with a property that depends on the item's number, counted from `first`
pub record Listed {A : Type 0} (P : ℕ → A → Type 0) (first n : ℕ) : Type 0 where
  pub rows : List A
  pub long : length rows ≡ n
  pub each : (i : ℕ) (x : A) → slice_get rows i ≡ Some x → P (first + i) x

pub listed : {A : Type 0} (P : ℕ → A → Type 0) (first n : ℕ) → ((v : ℕ) → v < first + n → (x : A) × P v x) → Listed P first n
listed P first zero h = record { rows = []; long = refl; each = λ i x at. cc }
listed {A} P first (suc n) h =
    let below : first < first + suc n = omega arith in
    let one : (x : A) × P first x = h first below in
    let rest : Listed P (first + 1) n = listed P (first + 1) n (λ v lt. h v (omega (arith, lt))) in
    record { rows = one.0 ∷ rest.rows; long = ap suc rest.long; each = by one rest }
  where
    here : (n : ℕ) → n ≡ n + 0
    here n = omega arith

    next : (n i : ℕ) → n + 1 + i ≡ n + suc i
    next n i = omega arith

    by : (one : (x : A) × P first x) (rest : Listed P (first + 1) n) (i : ℕ) (x : A) → slice_get (one.0 ∷ rest.rows) i ≡ Some x → P (first + i) x
    by one rest zero x at = subst (λ (m : ℕ). P m x) (here first) (subst (P first) (some_is at) one.1)
    by one rest (suc i) x at = subst (λ (m : ℕ). P m x) (next first i) (rest.each i x at)
