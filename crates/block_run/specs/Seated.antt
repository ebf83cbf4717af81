-- A worker in its seat before its first job. The last worker has the first seat.
use Rattle.std.specs.Prelude.{◌≡◌, ℕ, ◌-◌, ◌<◌, ◌≤◌, List, []}
use Rattle.block_run.specs.Jobs.{job_count, jobs_of}

module _ {P A : Type 0} (fits : P → List ℕ → Type 0) where
  -- The worker has no answers yet and room for all of them, and its pass fits its jobs.
  pub record IsSeated (workers jobs place : ℕ) (pass : P) (answers : List A) (room : ℕ) : Type 0 where
    pub few : workers ≤ 32
    pub placed : place < workers
    pub none : answers ≡ []
    pub enough : job_count (workers - 1 - place) workers jobs ≤ room
    pub ready : fits pass (jobs_of (workers - 1 - place) workers jobs)
