-- The jobs of a block, and what its workers ask of each manager.
use Rattle.std.specs.Prelude.{ℕ, ◌+◌, ◌<◌, ◌%◌, ◌==◌, ◌&&◌, nat_lt, Bool, true, List, [], ◌∷◌, ◌++◌, length, Option, Some, None, if◌then◌else◌}
use Rattle.net_model.specs.Site.{Site}
use Rattle.net_model.specs.World.{World}
use Rattle.net_model.specs.Action.{Action, Ok, Ask, Deliver}
use Rattle.net_model.specs.Events.{is_valid_event, is_lane}
use Rattle.net_model.specs.Step.{is_asked}
use Rattle.net_model.specs.BlockOrder.{is_block_event, is_turn_of}
use Rattle.run_model.specs.Works.{Work}
use Rattle.run_ops.specs.declared.job.Job.{Job}
use Rattle.run_ops.specs.declared.job.Job.TheVariants as jobs

-- The action that a job asks for, if any. Its part for the answers of disks and entropies says that all went well.
abbrev pub asked_for : Job → Option Action
asked_for jobs.Nothing = None
asked_for (jobs.Ask node event) = Some (Ask node event Ok)
asked_for (jobs.Pass lane number) = Some (Deliver lane number Ok)

-- A block may have this job, and everything that the job names is declared and in range.
abbrev pub is_job : Site → Job → Bool
is_job s jobs.Nothing = true
is_job s (jobs.Ask node event) = nat_lt node s.nodes && is_asked event && is_block_event event && is_valid_event s node event
is_job s (jobs.Pass lane number) = is_lane s lane

-- A frame that is to be passed stands on its wire.
abbrev pub IsThere : World → Job → Type 0
IsThere w (jobs.Pass lane number) = number < length (w.wire lane)
IsThere w _ = Unit {0}

-- The turn of the manager of node v, if the action is one.
abbrev pub turn_for : Site → ℕ → (place : ℕ) → Option Action → List Work
turn_for s v place None = []
turn_for s v place (Some action) = if is_turn_of s v action then record { place = place; action = action } ∷ [] else []

-- What worker k asks of the manager of node v. The worker takes each job whose place has the remainder k when divided
-- by the number of workers. It takes them in order of place.
unfoldable pub asked_by : Site → (workers k v place : ℕ) → List Job → List Work
asked_by s workers k v place [] = []
asked_by s workers k v place (job ∷ rest) =
    (if place % workers == k then turn_for s v place (asked_for job) else []) ++ asked_by s workers k v (place + 1) rest

-- Everything that the block asks of a manager, in order of place. A single worker asks just this.
abbrev pub asked_in_order : Site → (v : ℕ) → List Job → List Work
asked_in_order s v jobs = asked_by s 1 0 v 0 jobs
