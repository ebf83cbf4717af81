-- The jobs of a block's workers, and what they do to a worker's pass.
use Rattle.std.specs.Prelude.{◌≡◌, ℕ, zero, suc, ◌+◌, ◌-◌, ◌/◌, List, [], ◌∷◌}

-- n numbers from `first` on, each greater by `step` than the one before
abbrev pub jobs_from : ℕ → ℕ → ℕ → List ℕ
jobs_from first step zero = []
jobs_from first step (suc n) = first ∷ jobs_from (first + step) step n

-- how many of the numbers w, w + n, w + 2n and so on are below the number of jobs
abbrev pub job_count : ℕ → ℕ → ℕ → ℕ
job_count w n jobs = (jobs + n - (w + 1)) / n

-- the jobs of worker w of n: the numbers w, w + n, w + 2n and so on below the number of jobs
abbrev pub jobs_of : ℕ → ℕ → ℕ → List ℕ
jobs_of w n jobs = jobs_from w n (job_count w n jobs)

module _ {P A : Type 0} (gives : ℕ → P → A → P → Type 0) where
  -- Job by job, a pass gives an answer and becomes the next pass.
  abbrev pub Chains : List ℕ → P → List (ℕ × A) → P → Type 0
  Chains [] pass answers after = (answers ≡ []) × (after ≡ pass)
  Chains (job ∷ jobs) pass answers after = (answer : A) × (next : P) × (rest : List (ℕ × A)) × gives job pass answer next × (answers ≡ (job, answer) ∷ rest) × Chains jobs next rest after
