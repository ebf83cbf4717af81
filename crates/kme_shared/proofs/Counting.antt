-- Each job of a block belongs to one of its workers.
use Rattle.std.proofs.Common.{◌≡◌, ℕ, zero, suc, ◌+◌, ◌%◌, ◌<◌, ◌≤◌, List, [], ◌∷◌, length, refl, ap, subst, arith, length-append, Some}
use Rattle.std.specs.Prelude.{slice_get}
use Rattle.std.specs.List.{flat_map}
use Rattle.std.proofs.Math.Nat.{mod-lt}
use mathlib.Core.Logic.{dite}
use native.Mathlib.Decide.{dec_le}
use Rattle.block_run.specs.Jobs.{job_count}
use Rattle.par_managers.proofs.Counting.{count_none, count_in, count_out}

-- the number of jobs that the first `k` workers have
abbrev pub counts : (n jobs : ℕ) → ℕ → ℕ
counts n jobs zero = 0
counts n jobs (suc k) = counts n jobs k + job_count k n jobs

none_yet : (n k : ℕ) → k ≤ n → counts n 0 k ≡ 0
none_yet n zero few = refl
none_yet n (suc k) few = let a = none_yet n k (omega (arith, few)) in let b = count_none k n (omega (arith, few)) in omega (arith, a, b)

module _ (n jobs : ℕ) where
  before : (k : ℕ) → k ≤ n → k ≤ jobs % n → counts n (jobs + 1) k ≡ counts n jobs k
  before zero few above = refl
  before (suc k) few above =
      let a = before k (omega (arith, few)) (omega (arith, above)) in
      let b = count_out k n (omega (arith, few)) jobs (λ is. absurd (omega (arith, is, above))) in
      omega (arith, a, b)

  behind : (k : ℕ) → k ≤ n → jobs % n < k → counts n (jobs + 1) k ≡ counts n jobs k + 1
  behind zero few below = absurd (omega (arith, below))
  behind (suc k) few below =
      dite (dec_le (jobs % n + 1) k)
      (λ less.
      let a = behind k (omega (arith, few)) (omega (arith, less)) in
      let b = count_out k n (omega (arith, few)) jobs (λ is. absurd (omega (arith, is, less))) in
      omega (arith, a, b))
      (λ no.
      let a = before k (omega (arith, few)) (omega (arith, below, no)) in
      let b = count_in k n (omega (arith, few)) jobs (omega (arith, below, no)) in
      omega (arith, a, b))

pub all_counted : (n jobs : ℕ) → 0 < n → counts n jobs n ≡ jobs
all_counted n zero some = none_yet n n (omega arith)
all_counted n (suc jobs) some =
    let a = all_counted n jobs some in
    let b = behind n jobs n (omega arith) (mod-lt jobs some) in
    let c : counts n (suc jobs) n ≡ counts n (jobs + 1) n = ap (λ m. counts n m n) (next jobs) in
    omega (arith, a, b, c)
  where
    next : (m : ℕ) → suc m ≡ m + 1
    next m = omega arith

-- if each list has at most as many items as its worker has jobs, then all lists together have at most as many as all jobs
pub few_of_all : {A B : Type 0} (f : A → List B) (n jobs : ℕ) (xs : List A) (first : ℕ) → ((k : ℕ) (x : A) → slice_get xs k ≡ Some x → length (f x) ≤ job_count (first + k) n jobs) →
    counts n jobs first + length (flat_map f xs) ≤ counts n jobs (first + length xs)
few_of_all f n jobs [] first h = let e = ap (counts n jobs) (none first) in omega (arith, e)
  where
    none : (m : ℕ) → m + 0 ≡ m
    none m = omega arith
few_of_all f n jobs (x ∷ xs) first h =
    let one = h 0 x refl in
    let same = ap (λ m. job_count m n jobs) (none first) in
    let rest = few_of_all f n jobs xs (suc first) (λ k y at. subst (λ m. length (f y) ≤ job_count m n jobs) (next first k) (h (suc k) y at)) in
    let long = length-append (f x) (flat_map f xs) in
    let all = ap (counts n jobs) (next first (length xs)) in
    omega (arith, one, same, rest, long, all)
  where
    none : (m : ℕ) → m + 0 ≡ m
    none m = omega arith

    next : (m k : ℕ) → m + suc k ≡ suc m + k
    next m k = omega arith
