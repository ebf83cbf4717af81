-- What errands do to the machines and to what the workers keep.
use Rattle.std.specs.Prelude.{◌≡◌, ℕ, List, map, length, Some, slice_get}
use Rattle.block_run.specs.Jobs.{jobs_of, Chains}
use Rattle.net_model.specs.BlockOrder.{IsMerge}
use Rattle.turnstile.specs.Turns.{Leads}
use Rattle.shared_objects.specs.Rising.{placed_from}
use Rattle.shared_objects.specs.Said.{Said, said_on, all_said}

module _ {Q A K : Type 0} (does : ℕ → K → List (Said Q A) → K → Type 0) where
  -- Each worker did its jobs in order, from what it kept before to what it keeps after, with a conversation in each job.
  pub record HaveTalked (jobs : ℕ) (before : List K) (talks : List (List (ℕ × List (Said Q A)))) (after : List K) : Type 0 where
    pub keeps : length after ≡ length before
    pub workers : length talks ≡ length before
    pub chains : (w : ℕ) (k l : K) (talk : List (ℕ × List (Said Q A))) → slice_get before w ≡ Some k → slice_get after w ≡ Some l → slice_get talks w ≡ Some talk →
        Chains does (jobs_of w (length before) jobs) k talk l

module _ {M Q A : Type 0} (turn : M → Q → A → M → Type 0) where
  -- One history leads from the machine before to the machine after. It is a merge of what each worker said with the machine,
  -- where each call stands at the place that the worker was told.
  pub record HasAnswered (said : List (List (ℕ × (Q × A)))) (before after : M) : Type 0 where
    pub log : List (Q × A)
    pub leads : Leads turn before log after
    pub merged : IsMerge said (placed_from 0 log)

  -- Each machine has a history of its own.
  pub record HaveAnswered (said : List (List (Said Q A))) (before after : List M) : Type 0 where
    pub same : length after ≡ length before
    pub each : (i : ℕ) (m n : M) → slice_get before i ≡ Some m → slice_get after i ≡ Some n → HasAnswered (map (said_on i) said) m n

  -- The workers' conversations are those of their jobs, and each machine's history is what they said with it.
  pub record AreDone {K : Type 0} (does : ℕ → K → List (Said Q A) → K → Type 0) (jobs : ℕ) (keeps : List K) (machines : List M) (keeps' : List K) (machines' : List M) : Type 0 where
    pub talks : List (List (ℕ × List (Said Q A)))
    pub talked : HaveTalked does jobs keeps talks keeps'
    pub answered : HaveAnswered (map all_said talks) machines machines'
