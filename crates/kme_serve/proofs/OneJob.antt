-- In a block with as many jobs as workers, each worker has exactly one job.
use Rattle.std.proofs.Common.{◌≡◌, ℕ, ◌+◌, ◌-◌, ◌*◌, ◌/◌, ◌<◌, List, [], ◌∷◌, length, slice_get, Some, sym, ap, ◌∙◌, subst, arith, inl, inr}
use Rattle.std.proofs.lemmas.Nat.{div-mul-add}
use Rattle.std.proofs.lemmas.Option.{slice_get_within, slice_get_cases}
use Rattle.block_run.specs.Jobs.{jobs_from, jobs_of, Chains}
use Rattle.block_run.specs.Done.{IsDone}
use Rattle.kme_serve.specs.Workers.{IsOneJob}

own_job : (w n : ℕ) → w < n → jobs_of w n n ≡ w ∷ []
own_job w n below =
    let e : n + n - (w + 1) ≡ 1 * n + (n - (w + 1)) = omega arith in
    ap (λ (k : ℕ). jobs_from w n (k / n)) e ∙ ap (jobs_from w n) (div-mul-add 1 n (n - (w + 1)) (omega arith))

own_job_of : (w n jobs : ℕ) → jobs ≡ n → w < n → jobs_of w n jobs ≡ w ∷ []
own_job_of w n jobs same below = ap (λ (k : ℕ). jobs_of w n k) same ∙ own_job w n below

pub one_of : (May : ℕ → Type 0) (w n jobs : ℕ) → jobs ≡ n → w < n → May w → IsOneJob May (jobs_of w n jobs)
one_of May w n jobs same below may = subst (λ (own : List ℕ). IsOneJob May own) (sym (own_job_of w n jobs same below)) may

module _ {P A : Type 0} (gives : ℕ → P → A → P → Type 0) where
  one_done : (w : ℕ) (p q : P) (part : List (ℕ × A)) → Chains gives (w ∷ []) p part q → (answer : A) × gives w p answer q
  one_done w p q part chain = (chain.0, subst (gives w p chain.0) (sym chain.5.1) chain.3)

  pub each_done : (before after : List P) (jobs : ℕ) (answers : List (ℕ × A)) → jobs ≡ length before → IsDone gives before jobs after answers → (w : ℕ) (p q : P)
      → slice_get before w ≡ Some p → slice_get after w ≡ Some q → (answer : A) × gives w p answer q
  each_done before after jobs answers same done w p q here there =
      let below : w < length before = slice_get_within before w p here in
      let many : length done.parts ≡ length before = done.workers in
      elim ((slice_get_cases done.parts w).1) [
        | inl part ↦
            one_done w p q part.0
            (subst (λ (own : List ℕ). Chains gives own p part.0 q) (own_job_of w (length before) jobs same below) (done.chains w p q part.0 here there part.2))
        | inr past ↦ absurd (omega (arith, past.0))
      ]
