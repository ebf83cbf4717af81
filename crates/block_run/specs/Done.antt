-- What the workers of a block have done.
use Rattle.std.specs.Prelude.{◌≡◌, ℕ, ◌==◌, nat_lt, List, length, slice_get, count_by, Some, if◌then◌else◌}
use Rattle.std.specs.List.{flat_map}
use Rattle.block_run.specs.Jobs.{jobs_of, Chains}

module _ {P A : Type 0} (gives : ℕ → P → A → P → Type 0) where
  -- Each worker did its jobs in order, from the pass that it was given to the pass that it gives back. The answers are those of
  -- the first worker, then those of the second, and so on.
  pub record IsDone (before : List P) (jobs : ℕ) (after : List P) (answers : List (ℕ × A)) : Type 0 where
    pub parts : List (List (ℕ × A))
    pub passes : length after ≡ length before
    pub workers : length parts ≡ length before
    pub chains : (w : ℕ) (p q : P) (part : List (ℕ × A)) → slice_get before w ≡ Some p → slice_get after w ≡ Some q → slice_get parts w ≡ Some part →
        Chains gives (jobs_of w (length before) jobs) p part q
    pub answers_are : answers ≡ flat_map (λ part. part) parts

-- each job exactly once, and no other
abbrev pub EachOnce : {A : Type 0} → ℕ → List (ℕ × A) → Type 0
EachOnce jobs answers = (job : ℕ) → count_by (λ a. a.0 == job) answers ≡ (if nat_lt job jobs then 1 else 0)
