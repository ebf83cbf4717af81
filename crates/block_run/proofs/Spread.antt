-- Together, the workers have each job exactly once.
use Rattle.std.proofs.Common.{◌≡◌, ℕ, zero, suc, ◌+◌, ◌-◌, ◌*◌, ◌/◌, ◌%◌, ◌<◌, ◌≤◌, Bool, true, false, ltb, List, [], ◌∷◌, ◌++◌, length, refl, sym, ap, subst, ◌∙◌, arith, ◌⊎◌, inl, inr, cond, length-append, append-nil, suc-mul, zero-mul}
use Rattle.std.specs.Prelude.{◌==◌, nat_lt, count_by, if◌then◌else◌}
use Rattle.std.proofs.lemmas.Bool.{cases_lt, cases_eq}
use Rattle.std.proofs.lemmas.Bool.Decides.{nat_tests}
use Rattle.std.proofs.lemmas.Nat.{div-mul-add, div-add-mod'}
use Rattle.std.proofs.Math.Nat.{mod-lt}
use Rattle.std.proofs.lemmas.List.Sums.{sum_by-append, sum_by-cons}
use Rattle.block_run.specs.Jobs.{jobs_from, job_count, jobs_of}
use Rattle.block_run.proofs.Chaining.{jobs_snoc}

-- Let there be q rounds of n jobs and r more jobs. Each worker has one job in each round, and the first r workers have one
-- more.
count_low : (w n q r : ℕ) → w < r → r ≤ n → job_count w n (q * n + r) ≡ suc q
count_low w n q r low few =
    let e : q * n + r + n - (w + 1) ≡ suc q * n + (r - (w + 1)) = omega (arith, suc-mul q n) in
    ap (λ (k : ℕ). k / n) e ∙ div-mul-add (suc q) n (r - (w + 1)) (omega arith)

count_high : (w n q r : ℕ) → r ≤ w → w < n → job_count w n (q * n + r) ≡ q
count_high w n q r high few =
    let e : q * n + r + n - (w + 1) ≡ q * n + (r + n - (w + 1)) = omega arith in
    ap (λ (k : ℕ). k / n) e ∙ div-mul-add q n (r + n - (w + 1)) (omega arith)

-- Job q * n + r belongs to worker r, after its q earlier jobs.
pub one_more : (w n q r : ℕ) → w < n → r < n → jobs_of w n (suc (q * n + r)) ≡ jobs_of w n (q * n + r) ++ (if w == r then (q * n + r) ∷ [] else [])
one_more w n q r few short =
    let e : suc (q * n + r) ≡ q * n + suc r = omega arith in
    ap (jobs_of w n) e ∙ split (cases_eq w r) (cases_lt w r)
  where
    split : ((w ≡ r) ⊎ (w ≡ r → ⊥)) → ((w < r) ⊎ (r ≤ w)) → jobs_of w n (q * n + suc r) ≡ jobs_of w n (q * n + r) ++ (if w == r then (q * n + r) ∷ [] else [])
    split (inl same) order =
        let test : (w == r) ≡ true = grind (arith, nat_tests, same) in
        let after = count_low w n q (suc r) (omega (arith, same)) (omega (arith, short)) in
        let before = count_high w n q r (omega (arith, same)) few in
        let job : w + q * n ≡ q * n + r = omega (arith, same) in
        ap (jobs_from w n) after ∙ jobs_snoc w n q ∙ ap (λ (j : ℕ). jobs_from w n q ++ j ∷ []) job
        ∙ sym (ap (λ (k : ℕ). jobs_from w n k ++ (q * n + r) ∷ []) before)
        ∙ sym (ap (λ (t : Bool). jobs_of w n (q * n + r) ++ (if t then (q * n + r) ∷ [] else [])) test)
    split (inr other) (inl low) =
        let test : (w == r) ≡ false = grind (arith, nat_tests, other) in
        let after = count_low w n q (suc r) (omega (arith, low)) (omega (arith, short)) in
        let before = count_low w n q r low (omega (arith, short)) in
        ap (jobs_from w n) (after ∙ sym before) ∙ sym (append-nil (jobs_of w n (q * n + r)))
        ∙ sym (ap (λ (t : Bool). jobs_of w n (q * n + r) ++ (if t then (q * n + r) ∷ [] else [])) test)
    split (inr other) (inr high) =
        let test : (w == r) ≡ false = grind (arith, nat_tests, other) in
        let above : r < w = omega (arith, other, high) in
        let after = count_high w n q (suc r) (omega (arith, above)) few in
        let before = count_high w n q r high few in
        ap (jobs_from w n) (after ∙ sym before) ∙ sym (append-nil (jobs_of w n (q * n + r)))
        ∙ sym (ap (λ (t : Bool). jobs_of w n (q * n + r) ++ (if t then (q * n + r) ∷ [] else [])) test)

-- No worker has more jobs than the first one.
pub fewer : (w n jobs : ℕ) → w < n → job_count w n jobs ≤ job_count 0 n jobs
fewer w n jobs few =
    let some : 0 < n = omega (arith, few) in
    let short : jobs % n < n = mod-lt jobs some in
    subst (λ (j : ℕ). job_count w n j ≤ job_count 0 n j) (div-add-mod' jobs n) (split (jobs / n) (jobs % n) short some (cases_lt w (jobs % n)) (cases_lt 0 (jobs % n)))
  where
    split : (q r : ℕ) → r < n → 0 < n → ((w < r) ⊎ (r ≤ w)) → ((0 < r) ⊎ (r ≤ 0)) → job_count w n (q * n + r) ≤ job_count 0 n (q * n + r)
    split q r short some (inl low) first =
        let a = count_low w n q r low (omega (arith, short)) in
        let b = count_low 0 n q r (omega (arith, low)) (omega (arith, short)) in
        omega (arith, a, b)
    split q r short some (inr high) (inl first) =
        let a = count_high w n q r high few in
        let b = count_low 0 n q r first (omega (arith, short)) in
        omega (arith, a, b)
    split q r short some (inr high) (inr none) =
        let a = count_high w n q r high few in
        let b = count_high 0 n q r none some in
        omega (arith, a, b)

-- If there are no jobs, no worker has one.
none_of : (w n : ℕ) → w < n → jobs_of w n 0 ≡ []
none_of w n few = let e : 0 ≡ 0 * n + 0 = omega (arith, zero-mul n) in ap (λ (k : ℕ). jobs_from w n (job_count w n k)) e ∙ ap (jobs_from w n) (count_high w n 0 0 (omega arith) few)

-- the jobs of the first workers
abbrev pub up_to : ℕ → ℕ → ℕ → List ℕ
up_to zero n jobs = []
up_to (suc k) n jobs = up_to k n jobs ++ jobs_of k n jobs

module _ (test : ℕ → Bool) where
  pub count_both : (xs ys : List ℕ) → count_by test (xs ++ ys) ≡ count_by test xs + count_by test ys
  count_both xs ys = sum_by-append (λ k. cond (test k) 1 0) xs ys

  -- 1 if the job passes the test, else 0
  abbrev pub counts : ℕ → ℕ
  counts job = if test job then 1 else 0

  count_one : (job : ℕ) → count_by test (job ∷ []) ≡ counts job
  count_one job = sum_by-cons (λ k. cond (test k) 1 0) job [] ∙ omega arith

  -- how many jobs of the first workers pass the test when there is one more job
  counted_up : (k n q r : ℕ) → k ≤ n → r < n → count_by test (up_to k n (suc (q * n + r))) ≡ count_by test (up_to k n (q * n + r)) + (if nat_lt r k then counts (q * n + r) else 0)
  counted_up zero n q r few short = let e : nat_lt r 0 ≡ false = grind (arith, nat_tests) in sym (ap (λ (t : Bool). 0 + (if t then counts (q * n + r) else 0)) e)
  counted_up (suc k) n q r few short =
      let here = one_more k n q r (omega arith) short in
      let rest = counted_up k n q r (omega arith) short in
      let job = q * n + r in
      let whole = count_both (up_to k n (suc job)) (jobs_of k n (suc job)) in
      let parts = count_both (up_to k n job) (jobs_of k n job) in
      let more = ap (count_by test) here ∙ count_both (jobs_of k n job) (if k == r then job ∷ [] else []) in
      split job (cases_eq k r) whole parts rest more
    where
      Goal : ℕ → Bool → Type 0
      Goal job t = count_by test (up_to (suc k) n (suc job)) ≡ count_by test (up_to (suc k) n job) + (if t then counts job else 0)

      split : (job : ℕ) → ((k ≡ r) ⊎ (k ≡ r → ⊥)) →
          count_by test (up_to k n (suc job) ++ jobs_of k n (suc job)) ≡ count_by test (up_to k n (suc job)) + count_by test (jobs_of k n (suc job)) →
          count_by test (up_to k n job ++ jobs_of k n job) ≡ count_by test (up_to k n job) + count_by test (jobs_of k n job) →
          count_by test (up_to k n (suc job)) ≡ count_by test (up_to k n job) + (if nat_lt r k then counts job else 0) →
          count_by test (jobs_of k n (suc job)) ≡ count_by test (jobs_of k n job) + count_by test (if k == r then job ∷ [] else []) → Goal job (nat_lt r (suc k))
      split job (inl same) whole parts rest more =
          let a : (k == r) ≡ true = grind (arith, nat_tests, same) in
          let b : nat_lt r k ≡ false = grind (arith, nat_tests, same) in
          let c : nat_lt r (suc k) ≡ true = grind (arith, nat_tests, same) in
          let m = subst (λ (t : Bool). count_by test (jobs_of k n (suc job)) ≡ count_by test (jobs_of k n job) + count_by test (if t then job ∷ [] else [])) a more in
          let s = subst (λ (t : Bool). count_by test (up_to k n (suc job)) ≡ count_by test (up_to k n job) + (if t then counts job else 0)) b rest in
          let one = count_one job in
          subst (λ (t : Bool). count_by test (up_to (suc k) n (suc job)) ≡ count_by test (up_to (suc k) n job) + (if t then counts job else 0)) (sym c) (omega (arith, whole, parts, m, s, one))
      split job (inr other) whole parts rest more =
          let a : (k == r) ≡ false = grind (arith, nat_tests, other) in
          let c : nat_lt r (suc k) ≡ nat_lt r k = grind (arith, nat_tests, other) in
          let m = subst (λ (t : Bool). count_by test (jobs_of k n (suc job)) ≡ count_by test (jobs_of k n job) + count_by test (if t then job ∷ [] else [])) a more in
          subst (λ (t : Bool). count_by test (up_to (suc k) n (suc job)) ≡ count_by test (up_to (suc k) n job) + (if t then counts job else 0)) (sym c) (omega (arith, whole, parts, m, rest))

  none_up : (k n : ℕ) → k ≤ n → up_to k n 0 ≡ []
  none_up zero n few = refl
  none_up (suc k) n few = ap (λ xs. xs ++ jobs_of k n 0) (none_up k n (omega arith)) ∙ none_of k n (omega arith)

  -- One more job raises the count over all workers by what that job counts.
  pub counted : (n jobs : ℕ) → 0 < n → count_by test (up_to n n (suc jobs)) ≡ count_by test (up_to n n jobs) + counts jobs
  counted n jobs some =
      let short : jobs % n < n = mod-lt jobs some in
      let more = counted_up n n (jobs / n) (jobs % n) (omega arith) short in
      let here : nat_lt (jobs % n) n ≡ true = grind (arith, nat_tests, short) in
      let is : jobs / n * n + jobs % n ≡ jobs = div-add-mod' jobs n in
      subst (λ (j : ℕ). count_by test (up_to n n (suc j)) ≡ count_by test (up_to n n j) + counts j) is
      (subst (λ (t : Bool). count_by test (up_to n n (suc (jobs / n * n + jobs % n))) ≡ count_by test (up_to n n (jobs / n * n + jobs % n)) + (if t then counts (jobs / n * n + jobs % n) else 0)) here more)

  pub counted_none : (n : ℕ) → count_by test (up_to n n 0) ≡ 0
  counted_none n = ap (count_by test) (none_up n n (omega arith))

-- Each job stands exactly once among the workers' jobs.
pub each_once : (j n jobs : ℕ) → 0 < n → count_by (λ k. k == j) (up_to n n jobs) ≡ (if nat_lt j jobs then 1 else 0)
each_once j n zero some = counted_none (λ k. k == j) n ∙ (let e : nat_lt j 0 ≡ false = grind (arith, nat_tests) in sym (ap (λ (t : Bool). if t then 1 else 0) e))
each_once j n (suc jobs) some = counted (λ k. k == j) n jobs some ∙ ap (λ (k : ℕ). k + counts (λ k. k == j) jobs) (each_once j n jobs some) ∙ split (cases_eq jobs j)
  where
    split : ((jobs ≡ j) ⊎ (jobs ≡ j → ⊥)) → (if nat_lt j jobs then 1 else 0) + (if jobs == j then 1 else 0) ≡ (if nat_lt j (suc jobs) then 1 else 0)
    split (inl same) =
        let a : nat_lt j jobs ≡ false = grind (arith, nat_tests, same) in
        let b : (jobs == j) ≡ true = grind (arith, nat_tests, same) in
        let c : nat_lt j (suc jobs) ≡ true = grind (arith, nat_tests, same) in
        rw (a, b, c) refl
    split (inr other) =
        let b : (jobs == j) ≡ false = grind (arith, nat_tests, other) in
        let c : nat_lt j (suc jobs) ≡ nat_lt j jobs = grind (arith, nat_tests, other) in
        rw (b, c) (omega arith)

-- There are no other jobs among them.
pub as_many : (n jobs : ℕ) → 0 < n → count_by (λ k. true) (up_to n n jobs) ≡ jobs
as_many n zero some = counted_none (λ k. true) n
as_many n (suc jobs) some = counted (λ k. true) n jobs some ∙ ap (λ (k : ℕ). k + 1) (as_many n jobs some) ∙ omega arith
