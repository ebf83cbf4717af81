-- What the workers of a block did.
use Rattle.std.specs.Prelude.{◌≡◌, ℕ, ◌≤◌, true, List, map}
use Rattle.std.specs.List.{flat_map}
use Rattle.qkd_base.specs.declared.lane.Lane.{Lane}
use Rattle.net_model.specs.World.{Network, World}
use Rattle.net_model.specs.Events.{is_lane}
use Rattle.run_model.specs.Lines.{all_lanes}
use Rattle.run_model.specs.Works.{Work, flat, done_from, block_run}
use Rattle.run_ops.specs.Acting.{IsReady}
use Rattle.run_ops.specs.declared.job.Job.{Job}
use Rattle.run_ops.specs.Together.{turned, turn_done}
use Rattle.law_parallel.specs.InOrder.{turns_over}
use Rattle.law_parallel.specs.Logs.{Deed}
use Rattle.law_parallel.specs.Puts.{reported_on, placings_on}
use Rattle.law_parallel.specs.LaneWorks.{AreLaneWorks, works_of, world_after}
use Rattle.world_state.specs.Stands.{Stands}
use Rattle.world_state.specs.declared.state.State.{State}
use Rattle.world_state.specs.Tallied.{Tallied}
use Rattle.par_frames.specs.declared.worked.Worked.{Worked}
use Rattle.par_frames.specs.Frames.{frame_done, frame_placing, on_lane}
use Rattle.world_state.specs.Outside.{Outside}

-- These workers did the jobs. Each manager took the turns that the jobs ask of it, and each lane did exactly what the plans want of it. The state stands for
-- the world afterwards, in which no node has noted yet what became of its frames. If memory sufficed, `worked` has the managers' replies, and the frames lane
-- by lane in the order in which they were put.
pub record HasWorked {K Q E X : Type 0} (outside : Outside K Q E X)
    (old new : State K Q E X) (net : Network) (w : World) (workers : ℕ) (jobs : List Job) (worked : Worked) : Type 0 where
  pub histories : List (List Work)
  pub logs : Lane → List Deed
  pub are : AreLaneWorks net workers w jobs histories logs
  pub stands : Stands outside new net (world_after net (turns_over net w histories) logs)
  pub tallied : Tallied outside old new net.site (block_run net (works_of net w histories logs))
  pub said : worked.is_whole ≡ true → map turned worked.turns.items ≡ map turn_done (done_from net w (flat histories))
  pub in_lanes : worked.is_whole ≡ true → worked.frames.items ≡ flat_map (λ l. on_lane l worked.frames.items) (all_lanes net.site)
  pub reported : worked.is_whole ≡ true → (l : Lane) → is_lane net.site l ≡ true → map frame_done (on_lane l worked.frames.items) ≡ reported_on (turns_over net w histories) l (logs l)
  pub noted : worked.is_whole ≡ true → (l : Lane) → is_lane net.site l ≡ true → map frame_placing (on_lane l worked.frames.items) ≡ placings_on net (turns_over net w histories) l (logs l)

-- the workers did the jobs, from a network that was ready
pub record CameFrom {K Q E X : Type 0} (outside : Outside K Q E X)
    (old new : State K Q E X) (net : Network) (w : World) (workers : ℕ) (jobs : List Job) (worked : Worked) : Type 0 where
  pub some : 1 ≤ workers
  pub ready : IsReady (Stands outside) old net w
  pub worked' : HasWorked outside old new net w workers jobs worked
