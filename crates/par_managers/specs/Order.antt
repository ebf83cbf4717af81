-- Turns that are still to be taken.
use Rattle.std.specs.Prelude.{◌≡◌, ℕ, true, List, slice_get, Option, Some, None}
use Rattle.std.specs.List.{AllByRecursion}
use Rattle.net_model.specs.World.{Network, World}
use Rattle.run_ops.specs.declared.job.Job.{Job}
use Rattle.run_ops.specs.declared.job.Job.TheVariants as jobs
use Rattle.run_ops.specs.Jobs.{is_job}
use Rattle.world_state.specs.Frames.{IsOnWire}
use Rattle.par_managers.specs.declared.next.Next.{Next}

-- If the job passes a frame, these are the frame's octets.
abbrev pub HasOctets : Network → World → Job → Option (List ℕ) → Type 0
HasOctets net w jobs.Nothing octets = ⊥
HasOctets net w (jobs.Ask node event) octets = Unit {0}
HasOctets net w (jobs.Pass lane number) None = ⊥
HasOctets net w (jobs.Pass lane number) (Some octets) = IsOnWire net w lane number octets

-- The turn's job is one of the block's, and may be done.
pub record IsDue (net : Network) (w : World) (all : List Job) (next : Next) : Type 0 where
  pub job : Job
  pub there : slice_get all next.place ≡ Some job
  pub fit : is_job net.site job ≡ true
  pub has : HasOctets net w job next.octets

abbrev pub AreDue : Network → World → List Job → List Next → Type 0
AreDue net w all nexts = AllByRecursion (IsDue net w all) nexts
