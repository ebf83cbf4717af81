-- A block from its start to its end.
use Rattle.std.specs.Prelude.{◌≡◌, ℕ, ◌≤◌, List, length, map}
use Rattle.world_state.specs.Passed.{Post}
use Rattle.run_ops.specs.declared.job.Job.{Job}
use Rattle.lane_shares.specs.declared.shares.Shares.{Shares}
use Rattle.lane_sender.specs.Lane.{LaneForm}
use Rattle.shared_objects.specs.declared.either.Either.{Either}
use Rattle.par_managers.specs.Calls.{AreShifts}
use Rattle.par_managers.specs.declared.keep.Keep.{Keep}
use Rattle.par_managers.specs.Together.{HaveWorked}
use Rattle.world_state.specs.declared.state.State.{State}
use Rattle.par_frames.specs.declared.worked.Worked.{Worked}
use Rattle.kme_shared.specs.Desks.{ManagerTurns, LaneTurns}
use Rattle.kme_shared.specs.WorkSeats.{AreSat, HaveRisen}
use Rattle.kme_shared.specs.Gathering.{AreGathered}
use Rattle.kme_shared.specs.WorkGathering.{AreBare}
use Rattle.world_state.specs.Outside.{Outside}

-- The workers begin with the shifts of their jobs, and hold no replies or frames. Managers and lanes go to their desks, and the workers do their jobs there.
-- Then managers and lanes leave the desks, and the results of all workers are gathered.
pub record WentThrough {K Q E X D L : Type 0} (outside : Outside K Q E X)
    (opening_of : D → State K Q E X) (node_of up_of : D → ℕ) (post_of : D → Post K E) (shares_in : D → List Shares) (side_of : L → LaneForm X) (shares_of : L → Shares)
    (old new : State K Q E X) (workers : ℕ) (jobs : List Job) (worked : Worked) : Type 0 where
  pub some : 1 ≤ workers
  pub keeps : List Keep
  pub callers : length keeps ≡ workers
  pub shifts : AreShifts outside old workers jobs (map (λ (keep : Keep). keep.shift.items) keeps)
  pub bare : AreBare keeps
  pub machines : List (Either D L)
  pub sat : AreSat opening_of node_of up_of post_of side_of old machines
  pub machines' : List (Either D L)
  pub nexts : List Keep
  pub worked' : HaveWorked (ManagerTurns outside opening_of node_of up_of post_of shares_in) (LaneTurns outside.wire side_of shares_of)
      old.lanes.items (length old.posts.items) keeps machines nexts machines'
  pub risen : HaveRisen opening_of node_of up_of post_of side_of old machines' new
  pub gathered : AreGathered nexts worked
