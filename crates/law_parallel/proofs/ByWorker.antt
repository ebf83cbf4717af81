-- If each worker does its own part, all together do everything.
use Rattle.std.proofs.Common.{◌≡◌, ℕ, zero, suc, ◌+◌, ◌<◌, ◌≤◌, ◌%◌, Bool, true, false, ◌&&◌, List, [], ◌∷◌, refl, sym, ◌∙◌, ap, arith}
use Rattle.std.specs.Prelude.{◌==◌, nat_lt, count_by, if◌then◌else◌}
use Rattle.std.proofs.Math.Bool.{and-true, and-false}
use Rattle.std.proofs.Math.Nat.{mod-lt}
use Rattle.std.proofs.lemmas.Bool.{lt-ltb}
use Rattle.std.proofs.lemmas.Bool.Decides.{nat_tests}
use Rattle.net_model.specs.Tick.{Emission}
use Rattle.law_locality.proofs.Counting.{one_if, count_more}
use Rattle.law_parallel.proofs.Counting.{count_same, counted_none}
use Rattle.law_parallel.specs.Logs.{HaveTheSame}
use Rattle.law_parallel.specs.Workers.{of_worker}

module _ (workers : ℕ) (kind : ℕ × Emission → Bool) where
  abbrev worker : ℕ × Emission → ℕ
  worker x = x.0 % workers

  -- The item is of this kind and belongs to one of the first n workers.
  abbrev pub among : ℕ → ℕ × Emission → Bool
  among n x = kind x && nat_lt (worker x) n

  one_more_worker : (b : Bool) (r n : ℕ) → one_if (b && nat_lt r (suc n)) ≡ one_if (b && nat_lt r n) + one_if (b && (r == n))
  one_more_worker false r n = refl
  one_more_worker true r n = elim (r == n) as (λ t. (r == n) ≡ t → one_if (nat_lt r (suc n)) ≡ one_if (nat_lt r n) + one_if t) [
    | true ↦ λ e. let now = here r n e in let before = not_yet r n e in let a : one_if (nat_lt r (suc n)) ≡ 1 = ap one_if now in let b : one_if (nat_lt r n) ≡ 0 = ap one_if before in omega (arith, a, b)
    | false ↦ λ e. let a : one_if (nat_lt r (suc n)) ≡ one_if (nat_lt r n) = ap one_if (lower r n e) in omega (arith, a)
  ] refl
    where
      here : (r n : ℕ) → (r == n) ≡ true → nat_lt r (suc n) ≡ true
      here r n h = grind (arith, nat_tests)

      not_yet : (r n : ℕ) → (r == n) ≡ true → nat_lt r n ≡ false
      not_yet r n h = grind (arith, nat_tests)

      lower : (r n : ℕ) → (r == n) ≡ false → nat_lt r (suc n) ≡ nat_lt r n
      lower r n h = grind (arith, nat_tests)

  of_one : (n : ℕ) (xs : List (ℕ × Emission)) → count_by kind (of_worker workers n xs) ≡ count_by (λ x. kind x && (worker x == n)) xs
  of_one n [] = refl
  of_one n (x ∷ xs) =
      let rest = of_one n xs in
      let more = count_more (λ y. kind y && (worker y == n)) x xs in
      elim (worker x == n) as (λ t. count_by (λ y. kind y && (worker y == n)) (x ∷ xs) ≡ one_if (kind x && t) + count_by (λ y. kind y && (worker y == n)) xs →
      count_by kind (if t then x ∷ of_worker workers n xs else of_worker workers n xs) ≡ count_by (λ y. kind y && (worker y == n)) (x ∷ xs)) [
        | true ↦ λ m.
            let one = count_more kind x (of_worker workers n xs) in
            let same : one_if (kind x && true) ≡ one_if (kind x) = ap one_if (and-true (kind x)) in
            omega (arith, rest, m, one, same)
        | false ↦ λ m. let none : one_if (kind x && false) ≡ 0 = ap one_if (and-false (kind x)) in omega (arith, rest, m, none)
      ] more

  pub of_more : (n : ℕ) (xs : List (ℕ × Emission)) → count_by (among (suc n)) xs ≡ count_by (among n) xs + count_by kind (of_worker workers n xs)
  of_more n [] = refl
  of_more n (x ∷ xs) =
      let rest = of_more n xs in
      let a = count_more (among (suc n)) x xs in
      let b = count_more (among n) x xs in
      let d = count_more (λ y. kind y && (worker y == n)) x xs in
      let one = one_more_worker (kind x) (worker x) n in
      let first = of_one n xs in
      let all = of_one n (x ∷ xs) in
      omega (arith, rest, a, b, d, one, first, all)

  pub of_none : (x : ℕ × Emission) → among 0 x ≡ false
  of_none x = ap (λ (b : Bool). kind x && b) (none_below (worker x)) ∙ and-false (kind x)
    where
      none_below : (r : ℕ) → nat_lt r 0 ≡ false
      none_below r = grind (arith, nat_tests)

  up_to : (xs ys : List (ℕ × Emission)) (n : ℕ) → ((k : ℕ) → k < n → of_worker workers k xs ≡ of_worker workers k ys) → count_by (among n) xs ≡ count_by (among n) ys
  up_to xs ys zero h = counted_none (among 0) of_none xs ∙ sym (counted_none (among 0) of_none ys)
  up_to xs ys (suc n) h =
      let rest = up_to xs ys n (λ k less. h k (omega (arith, less))) in
      let one = ap (count_by kind) (h n (omega arith)) in
      let a = of_more n xs in
      let b = of_more n ys in
      omega (arith, rest, one, a, b)

  pub of_all : 1 ≤ workers → (x : ℕ × Emission) → among workers x ≡ kind x
  of_all some x = ap (λ (b : Bool). kind x && b) (lt-ltb (worker x) workers (mod-lt x.0 some)) ∙ and-true (kind x)

pub each_its_own : (workers : ℕ) (xs ys : List (ℕ × Emission)) → 1 ≤ workers → ((k : ℕ) → k < workers → of_worker workers k xs ≡ of_worker workers k ys) → HaveTheSame xs ys
each_its_own workers xs ys some h kind =
    sym (count_same (among workers kind workers) kind (of_all workers kind some) xs) ∙ up_to workers kind xs ys workers h ∙ count_same (among workers kind workers) kind (of_all workers kind some) ys
