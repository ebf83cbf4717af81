-- The place of a frame among others.
use Rattle.std.proofs.Common.{◌≡◌, ℕ, zero, suc, ◌+◌, ◌<◌, ◌≤◌, true, false, List, [], ◌∷◌, length, drop, refl, ◌∙◌, ap, arith, Some}
use Rattle.std.specs.Prelude.{get_or, slice_get, if◌then◌else◌}
use Rattle.std.specs.List.{insert}
use Rattle.law_base.proofs.Base.{when_true, when_false}
use Rattle.world_state.proofs.Drops.{drop_next, drop_all}
use Rattle.par_frames.specs.declared.log.Refused.{Refused}
use Rattle.par_frames.specs.Adding.{is_first, place_behind, put_behind}

module _ (x : Refused) (all : List Refused) (i : ℕ) (y : Refused) (below : i < length all) (is : y ≡ get_or all i y) (far : place_behind x all ≡ i + place_behind x (drop i all)) where
  next : place_behind x (drop i all) ≡ (if is_first y x then suc (place_behind x (drop (i + 1) all)) else zero)
  next = ap (place_behind x) (drop_next all i y below is)

  pub place_here : is_first y x ≡ false → place_behind x all ≡ i
  place_here e =
      let here = next ∙ when_false (is_first y x) (suc (place_behind x (drop (i + 1) all))) zero e in
      far ∙ ap (λ (n : ℕ). i + n) here ∙ omega arith

  pub place_later : is_first y x ≡ true → place_behind x all ≡ i + 1 + place_behind x (drop (i + 1) all)
  place_later e =
      let here = next ∙ when_true (is_first y x) (suc (place_behind x (drop (i + 1) all))) zero e in
      far ∙ ap (λ (n : ℕ). i + n) here ∙ omega arith

pub place_end : (x : Refused) (all : List Refused) (i : ℕ) → length all ≤ i → i ≤ length all → place_behind x all ≡ i + place_behind x (drop i all) → place_behind x all ≡ length all
place_end x all i above most far =
    let none = ap (place_behind x) (drop_all all i above) in
    far ∙ ap (λ (n : ℕ). i + n) none ∙ omega (arith, above, most)

pub place_within : (x : Refused) (all : List Refused) → place_behind x all ≤ length all
place_within x [] = omega arith
place_within x (y ∷ ys) = elim (is_first y x) as (λ t. (if t then suc (place_behind x ys) else zero) ≤ suc (length ys)) [
  | true ↦ let rest = place_within x ys in omega (arith, rest)
  | false ↦ omega arith
]

pub inserted : (x : Refused) (all : List Refused) → insert all (place_behind x all) x ≡ put_behind x all
inserted x [] = refl
inserted x (y ∷ ys) = elim (is_first y x) as (λ t. insert (y ∷ ys) (if t then suc (place_behind x ys) else zero) x ≡ (if t then y ∷ put_behind x ys else x ∷ y ∷ ys)) [
  | true ↦ ap (λ (zs : List Refused). y ∷ zs) (inserted x ys)
  | false ↦ refl
]

-- the rest of a list from a place on, if it isn't empty

pub left_there : {A : Type 0} (xs : List A) (n : ℕ) (x : A) (ys : List A) → drop n xs ≡ x ∷ ys → slice_get xs n ≡ Some x
left_there [] zero x ys h = cc
left_there [] (suc n) x ys h = cc
left_there (z ∷ xs) zero x ys h = cc
left_there (z ∷ xs) (suc n) x ys h = left_there xs n x ys h

pub left_below : {A : Type 0} (xs : List A) (n : ℕ) (x : A) (ys : List A) → drop n xs ≡ x ∷ ys → n < length xs
left_below [] zero x ys h = cc
left_below [] (suc n) x ys h = cc
left_below (z ∷ xs) zero x ys h = omega arith
left_below (z ∷ xs) (suc n) x ys h = let rest = left_below xs n x ys h in omega (arith, rest)

left_more : {A : Type 0} (xs : List A) (n : ℕ) (x : A) (ys : List A) → drop n xs ≡ x ∷ ys → ys ≡ drop (suc n) xs
left_more [] zero x ys h = cc
left_more [] (suc n) x ys h = cc
left_more (z ∷ xs) zero x ys h = cc
left_more (z ∷ xs) (suc n) x ys h = left_more xs n x ys h

pub left_next : {A : Type 0} (xs : List A) (n : ℕ) (x : A) (ys : List A) → drop n xs ≡ x ∷ ys → ys ≡ drop (n + 1) xs
left_next xs n x ys h = let one : suc n ≡ n + 1 = omega arith in left_more xs n x ys h ∙ ap (λ (m : ℕ). drop m xs) one

pub none_left : {A : Type 0} (xs ys : List A) (n : ℕ) → ys ≡ drop n xs → length ys ≡ 0 → length xs ≤ n
none_left [] ys n h none = omega arith
none_left (x ∷ xs) ys zero h none = let long = ap length h in omega (arith, long, none)
none_left (x ∷ xs) ys (suc n) h none = let rest = none_left xs ys n h none in omega (arith, rest)
