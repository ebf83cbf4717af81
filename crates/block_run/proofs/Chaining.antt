-- A worker's jobs, one after another.
use Rattle.std.proofs.Common.{◌≡◌, ℕ, zero, suc, ◌+◌, ◌-◌, ◌*◌, ◌<◌, ◌≤◌, List, [], ◌∷◌, ◌++◌, refl, sym, ap, subst, ◌∙◌, arith, zero-mul, add-zero, suc-mul}
use Rattle.block_run.specs.Jobs.{jobs_from, Chains}

-- The first t + 1 jobs are the first t jobs, and then w + t * n.
pub jobs_snoc : (w n t : ℕ) → jobs_from w n (suc t) ≡ jobs_from w n t ++ (w + t * n) ∷ []
jobs_snoc w n zero = ap (λ (j : ℕ). j ∷ []) (sym (ap (λ (k : ℕ). w + k) (zero-mul n) ∙ add-zero w))
jobs_snoc w n (suc t) =
    let e : w + n + t * n ≡ w + suc t * n = omega (arith, suc-mul t n) in
    ap (λ (js : List ℕ). w ∷ js) (jobs_snoc (w + n) n t ∙ ap (λ (j : ℕ). jobs_from (w + n) n t ++ j ∷ []) e)

module _ {P A : Type 0} (gives : ℕ → P → A → P → Type 0) where
  pub chain_snoc : (js : List ℕ) (p mid q : P) (got : List (ℕ × A)) (j : ℕ) (a : A) → Chains gives js p got mid → gives j mid a q → Chains gives (js ++ j ∷ []) p (got ++ (j, a) ∷ []) q
  chain_snoc [] p mid q got j a chain one =
      (a, q, [], subst (λ (m : P). gives j m a q) chain.1 one, ap (λ (x : List (ℕ × A)). x ++ (j, a) ∷ []) chain.0, (refl, refl))
  chain_snoc (i ∷ is) p mid q got j a chain one =
      (chain.0, chain.1, chain.2 ++ (j, a) ∷ [], chain.3, ap (λ (x : List (ℕ × A)). x ++ (j, a) ∷ []) chain.4, chain_snoc is chain.1 mid q chain.2 j a chain.5 one)

  -- A chain of jobs continues with one more job.
  pub chain_more : (w n t : ℕ) (p mid q : P) (got later : List (ℕ × A)) (j : ℕ) (a : A) → Chains gives (jobs_from w n t) p got mid → j ≡ w + t * n → gives j mid a q → later ≡ got ++ (j, a) ∷ [] →
      Chains gives (jobs_from w n (t + 1)) p later q
  chain_more w n t p mid q got later j a chain is one grown =
      let step : suc t ≡ t + 1 = omega arith in
      let more = chain_snoc (jobs_from w n t) p mid q got j a chain one in
      let jobs : jobs_from w n t ++ j ∷ [] ≡ jobs_from w n (t + 1) = ap (λ (k : ℕ). jobs_from w n t ++ k ∷ []) is ∙ sym (jobs_snoc w n t) ∙ ap (jobs_from w n) step in
      subst (λ (js : List ℕ). Chains gives js p later q) jobs (subst (λ (x : List (ℕ × A)). Chains gives (jobs_from w n t ++ j ∷ []) p x q) (sym grown) more)

-- The jobs that are left begin with the next one.
pub jobs_left : (w n t count : ℕ) → t < count → jobs_from (w + t * n) n (count - t) ≡ (w + t * n) ∷ jobs_from (w + (t + 1) * n) n (count - (t + 1))
jobs_left w n t count lt =
    let e : count - t ≡ suc (count - (t + 1)) = omega arith in
    let next : w + t * n + n ≡ w + (t + 1) * n = omega (arith, suc-mul t n) in
    ap (jobs_from (w + t * n) n) e ∙ ap (λ (f : ℕ). (w + t * n) ∷ jobs_from f n (count - (t + 1))) next
