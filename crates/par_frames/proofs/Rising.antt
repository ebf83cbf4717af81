-- If the keys of a list rise, its members have only one order.
use Rattle.std.proofs.Common.{◌≡◌, ℕ, zero, suc, ◌<◌, ◌≤◌, Bool, true, false, List, [], ◌∷◌, refl, sym, ◌∙◌, ap, subst, arith}
use mathlib.Core.Logic.{◌⊎◌, inl, inr, ⊎_elim}
use Rattle.std.specs.Prelude.{◌==◌, count_by}
use Rattle.std.specs.List.{AllByRecursion}
use Rattle.std.specs.List.Sorted.{IsNonDecreasingBy}
use Rattle.std.proofs.lemmas.Bool.Decides.{nat_tests}
use Rattle.std.proofs.lemmas.List.Elements.{recursion_from_All}
use Rattle.law_base.proofs.Base.{eq_from, eq_same}
use Rattle.law_locality.proofs.Counting.{one_if, count_more}
use Rattle.law_base.proofs.Lists.{all_at, all_from}
use Rattle.law_parallel.proofs.Counting.{found_there}
use Rattle.par_frames.specs.Sorting.{IsIn, HasJust}

module _ {A : Type 0} where
  first_or_later : (y : A) (ys : List A) (x : A) → IsIn (y ∷ ys) x → (y ≡ x) ⊎ IsIn ys x
  first_or_later y ys x (zero, is) = inl cc
  first_or_later y ys x (suc n, is) = inr (n, is)

  holds_of : (P : A → Type 0) (xs : List A) (x : A) → AllByRecursion P xs → IsIn xs x → P x
  holds_of P xs x h i = all_at P xs i.0 x h i.1

  pub itself : (xs : List A) → AllByRecursion (IsIn xs) xs
  itself xs = all_from (IsIn xs) xs (λ n x is. (n, is))

module _ {A : Type 0} (key : A → ℕ) where
  -- Each key is below all later ones.
  abbrev pub Rise : List A → Type 0
  Rise [] = Unit {0}
  Rise (x ∷ xs) = AllByRecursion (λ y. key x < key y) xs × Rise xs

  not_first : (y : A) (ys xs : List A) → AllByRecursion (λ z. key y < key z) xs → AllByRecursion (IsIn (y ∷ ys)) xs → AllByRecursion (IsIn ys) xs
  not_first y ys [] above h = tt
  not_first y ys (x ∷ xs) above h = (
    ⊎_elim (λ (e : y ≡ x). absurd (let same = ap key e in let less = above.0 in omega (arith, same, less))) (λ (i : IsIn ys x). i) (first_or_later y ys x h.0),
    not_first y ys xs above.1 h.1,
  )

  -- Two lists that rise and have the same members are equal.
  same_list : (xs ys : List A) → Rise xs → Rise ys → AllByRecursion (IsIn ys) xs → AllByRecursion (IsIn xs) ys → xs ≡ ys
  same_list [] [] r s h k = refl
  same_list [] (y ∷ ys) r s h k = cc
  same_list (x ∷ xs) [] r s h k = cc
  same_list (x ∷ xs) (y ∷ ys) r s h k =
      let first : x ≡ y = ⊎_elim (λ (e : y ≡ x). sym e)
      (λ (i : IsIn ys x). ⊎_elim (λ (e : x ≡ y). e)
      (λ (j : IsIn xs y). absurd (let a = holds_of (λ z. key y < key z) ys x s.0 i in let b = holds_of (λ z. key x < key z) xs y r.0 j in omega (arith, a, b)))
      (first_or_later x xs y k.0))
      (first_or_later y ys x h.0) in
      let later = same_list xs ys r.1 s.1
      (not_first y ys xs (subst (λ (z : A). AllByRecursion (λ v. key z < key v) xs) first r.0) h.1)
      (not_first x xs ys (subst (λ (z : A). AllByRecursion (λ v. key z < key v) ys) (sym first) s.0) k.1) in
      λ i. first i ∷ later i

  -- ---- lists in order, without two equal keys

  abbrev has : ℕ → A → Bool
  has p x = key x == p

  none_above : (p : ℕ) (xs : List A) → AllByRecursion (λ y. p < key y) xs → count_by (has p) xs ≡ 0
  none_above p [] h = refl
  none_above p (x ∷ xs) h = elim (key x == p) as (λ t. (key x == p) ≡ t → count_by (has p) (x ∷ xs) ≡ 0) [
    | true ↦ λ e. let same = eq_from (key x) p e in let above = h.0 in absurd (omega (arith, same, above))
    | false ↦ λ e. let rest = none_above p xs h.1 in let more = count_more (has p) x xs in let none : one_if (key x == p) ≡ 0 = ap one_if e in omega (arith, rest, more, none)
  ] refl

  once : (p : ℕ) (xs : List A) → Rise xs → count_by (has p) xs ≤ 1
  once p [] r = omega arith
  once p (x ∷ xs) r = elim (key x == p) as (λ t. (key x == p) ≡ t → count_by (has p) (x ∷ xs) ≤ 1) [
    | true ↦ λ e.
        let same = eq_from (key x) p e in
        let none = none_above p xs (subst (λ (n : ℕ). AllByRecursion (λ y. n < key y) xs) same r.0) in
        let more = count_more (has p) x xs in
        let one : one_if (key x == p) ≡ 1 = ap one_if e in omega (arith, none, more, one)
    | false ↦ λ e.
        let rest = once p xs r.1 in
        let more = count_more (has p) x xs in
        let none : one_if (key x == p) ≡ 0 = ap one_if e in omega (arith, rest, more, none)
  ] refl

  apart : (x : A) (xs : List A) → ((p : ℕ) → count_by (has p) (x ∷ xs) ≤ 1) → (ys : List A) → AllByRecursion (IsIn xs) ys → AllByRecursion (λ y. key x ≤ key y) ys → AllByRecursion (λ y. key x < key y) ys
  apart x xs few [] h le = tt
  apart x xs few (y ∷ ys) h le = (strict, apart x xs few ys h.1 le.1)
    where
      twice : key x ≡ key y → ⊥
      twice e =
          let more = count_more (has (key x)) x xs in
          let one : one_if (key x == key x) ≡ 1 = ap one_if (eq_same (key x)) in
          let there = found_there (has (key x)) xs h.0.0 y h.0.1 (ap (λ (n : ℕ). n == key x) (sym e) ∙ eq_same (key x)) in
          let most = few (key x) in omega (arith, more, one, there, most)

      strict : key x < key y
      strict = let low = le.0 in elim (key x == key y) as (λ t. (key x == key y) ≡ t → key x < key y) [
        | true ↦ λ e. absurd (twice (eq_from (key x) (key y) e))
        | false ↦ λ e. below low e
      ] refl
        where
          below : key x ≤ key y → (key x == key y) ≡ false → key x < key y
          below low e = grind (arith, nat_tests)

  rises : (xs : List A) → IsNonDecreasingBy key xs → ((p : ℕ) → count_by (has p) xs ≤ 1) → Rise xs
  rises [] up few = tt
  rises (x ∷ xs) up few = (
    apart x xs few xs (itself xs) (recursion_from_All (λ y. key x ≤ key y) xs (λ k d lt. up zero (suc k) d (omega arith) (omega (arith, lt)))),
    rises xs (λ i j d le lt. up (suc i) (suc j) d (omega (arith, le)) (omega (arith, lt)))
        (λ p. let most = few p in let more = count_more (has p) x xs in omega (arith, most, more)),
  )

  -- A list in order with the members of a rising list is that list.
  pub one_order : (xs ys : List A) → Rise xs → HasJust xs ys → IsNonDecreasingBy key ys → ys ≡ xs
  one_order xs ys r h up =
      let few : (n : ℕ) → count_by (has n) ys ≤ 1 = λ n. subst (λ (m : ℕ). m ≤ 1) (h.same (has n)) (once n xs r) in
      same_list ys xs (rises ys up few) r (all_from (IsIn xs) ys h.back) (all_from (IsIn ys) xs h.there)
