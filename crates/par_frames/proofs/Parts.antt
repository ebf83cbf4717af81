-- Lists with the same members, and their parts that pass a test.
use Rattle.std.proofs.Common.{◌≡◌, ℕ, zero, suc, ◌<◌, ◌≤◌, Bool, true, false, ◌&&◌, List, [], ◌∷◌, length, refl, sym, ◌∙◌, ap, arith, Some}
use Rattle.std.specs.Prelude.{get_or, cond, filter, count_by, slice_get}
use Rattle.std.specs.List.{AllByRecursion}
use Rattle.std.specs.List.Sorted.{IsPermutation, IsNonDecreasingBy}
use Rattle.std.proofs.lemmas.List.Elements.{All-from_recursion, recursion_from_All}
use Rattle.std.proofs.lemmas.List.Sorted.{All-permutation, IsPermutation-sym, sum_by-IsPermutation}
use Rattle.law_locality.proofs.Counting.{one_if, count_more}
use Rattle.law_base.proofs.Lists.{all_at, kept_at}
use Rattle.par_frames.specs.Sorting.{IsIn, HasJust, IsOrderedWhere}
use Rattle.par_frames.proofs.Rising.{itself}

module _ {A : Type 0} where
  moved : (xs ys : List A) → IsPermutation xs ys → AllByRecursion (IsIn xs) ys
  moved xs ys p = recursion_from_All (IsIn xs) ys (All-permutation (IsIn xs) xs ys p (All-from_recursion (IsIn xs) xs (itself xs)))

  pub just_moved : (xs ys : List A) → IsPermutation xs ys → HasJust xs ys
  just_moved xs ys p = record {
    there = λ n x is. all_at (IsIn ys) xs n x (moved ys xs (IsPermutation-sym xs ys p)) is;
    back = λ n y is. all_at (IsIn xs) ys n y (moved xs ys p) is;
    same = λ kind. sym (sum_by-IsPermutation (λ (x : A). cond (kind x) 1 0) xs ys p);
  }

  pub just_both : (xs ys zs : List A) → HasJust xs ys → HasJust ys zs → HasJust xs zs
  just_both xs ys zs h k = record {
    there = λ n x is. let i = h.there n x is in k.there i.0 x i.1;
    back = λ n z is. let i = k.back n z is in h.back i.0 z i.1;
    same = λ kind. h.same kind ∙ k.same kind;
  }

  -- ---- parts

  module _ (p : A → Bool) where
    in_part : (xs : List A) (n : ℕ) (x : A) → slice_get xs n ≡ Some x → p x ≡ true → IsIn (filter p xs) x
    in_part [] n x is e = cc
    in_part (y ∷ ys) zero x is e =
        let same : y ≡ x = cc in
        elim (p y) as (λ t. p y ≡ t → IsIn (cond t (y ∷ filter p ys) (filter p ys)) x) [ true ↦ λ f. (zero, is) | false ↦ λ f. let passes = ap p same ∙ e in cc ] refl
    in_part (y ∷ ys) (suc n) x is e =
        let rest = in_part ys n x is e in
        elim (p y) as (λ t. IsIn (cond t (y ∷ filter p ys) (filter p ys)) x) [ true ↦ (suc rest.0, rest.1) | false ↦ rest ]

    count_part : (kind : A → Bool) (xs : List A) → count_by kind (filter p xs) ≡ count_by (λ (x : A). p x && kind x) xs
    count_part kind [] = refl
    count_part kind (x ∷ xs) =
        let rest = count_part kind xs in
        let more = count_more (λ (y : A). p y && kind y) x xs in
        elim (p x) as (λ t. p x ≡ t → count_by kind (cond t (x ∷ filter p xs) (filter p xs)) ≡ count_by (λ (y : A). p y && kind y) (x ∷ xs)) [
          | true ↦ λ e. let one = ap (λ (t : Bool). one_if (t && kind x)) e in let first = count_more kind x (filter p xs) in omega (arith, rest, more, one, first)
          | false ↦ λ e. let none = ap (λ (t : Bool). one_if (t && kind x)) e in omega (arith, rest, more, none)
        ] refl

    pub just_part : (xs ys : List A) → HasJust xs ys → HasJust (filter p xs) (filter p ys)
    just_part xs ys h = record {
      there = λ n x is. let k = kept_at p xs x n is in let i = h.there k.0 x k.1 in in_part ys i.0 x i.1 k.2;
      back = λ n y is. let k = kept_at p ys y n is in let i = h.back k.0 y k.1 in in_part xs i.0 y i.1 k.2;
      same = λ kind. count_part kind xs ∙ h.same (λ (x : A). p x && kind x) ∙ sym (count_part kind ys);
    }

    -- ---- the order of parts

    module _ (key : A → ℕ) where
      abbrev From : A → List A → Type 0
      From x ys = AllByRecursion (λ y. key x ≤ key y) ys

      at_least : (x : A) (ys : List A) (d : A) → From x ys → (n : ℕ) → n < length ys → key x ≤ key (get_or ys n d)
      at_least x [] d h n lt = absurd (omega (arith, lt))
      at_least x (y ∷ ys) d h zero lt = h.0
      at_least x (y ∷ ys) d h (suc n) lt = at_least x ys d h.1 n (omega (arith, lt))

      one_first : (x : A) (ys : List A) → From x ys → IsNonDecreasingBy key ys → IsNonDecreasingBy key (x ∷ ys)
      one_first x ys h up zero zero d le lt = omega arith
      one_first x ys h up zero (suc j) d le lt = at_least x ys d h j (omega (arith, lt))
      one_first x ys h up (suc i) zero d le lt = absurd (omega (arith, le))
      one_first x ys h up (suc i) (suc j) d le lt = up i j d (omega (arith, le)) (omega (arith, lt))

      above : (x : A) (ys : List A) → ((n : ℕ) → n < length ys → p (get_or ys n x) ≡ true → key x ≤ key (get_or ys n x)) → From x (filter p ys)
      above x [] h = tt
      above x (y ∷ ys) h =
          let rest = above x ys (λ n lt e. h (suc n) (omega (arith, lt)) e) in
          elim (p y) as (λ t. p y ≡ t → From x (cond t (y ∷ filter p ys) (filter p ys))) [ true ↦ λ e. (h zero (omega arith) e, rest) | false ↦ λ e. rest ] refl

      pub part_ordered : (xs : List A) → IsOrderedWhere p key xs → IsNonDecreasingBy key (filter p xs)
      part_ordered [] h = λ i j d le lt. absurd (omega (arith, lt))
      part_ordered (x ∷ xs) h =
          let rest = part_ordered xs (λ i j d le lt e f. h (suc i) (suc j) d (omega (arith, le)) (omega (arith, lt)) e f) in
          elim (p x) as (λ t. p x ≡ t → IsNonDecreasingBy key (cond t (x ∷ filter p xs) (filter p xs))) [
            | true ↦ λ e. one_first x (filter p xs) (above x xs (λ n lt f. h zero (suc n) x (omega arith) (omega (arith, lt)) e f)) rest
            | false ↦ λ e. rest
          ] refl
