-- All lanes of a block that workers did.
use Rattle.std.specs.Prelude.{◌≡◌, ℕ, true, List, [], length, map, slice_get, Some}
use Rattle.std.specs.List.{list_all}
use Rattle.std.specs.List.Sorted.{IsNonDecreasingBy}
use Rattle.qkd_base.specs.declared.lane.Lane.{Lane}
use Rattle.net_model.specs.declared.placing.Placing.{Placing}
use Rattle.net_model.specs.Site.{count_up}
use Rattle.net_model.specs.World.{Network, World}
use Rattle.net_model.specs.Events.{is_lane, is_frame_size}
use Rattle.net_model.specs.Tick.{Emission}
use Rattle.net_model.specs.Step.{IsRun}
use Rattle.net_model.specs.BlockOrder.{IsMerge}
use Rattle.run_model.specs.Works.{Work, actions_in, flat, plain_work, done_from}
use Rattle.run_ops.specs.declared.job.Job.{Job}
use Rattle.run_ops.specs.Jobs.{asked_by}
use Rattle.turnstile.specs.Turns.{Leads}
use Rattle.lane_sender.specs.Lane.{LaneForm}
use Rattle.par_lanes.specs.declared.ask.LaneAsk.{LaneAsk}
use Rattle.par_lanes.specs.declared.ask.LaneAnswer.{LaneAnswer}
use Rattle.par_lanes.specs.Turns.{Turns}
use Rattle.world_state.specs.Passed.{IsRunning, LaneStands}
use Rattle.world_state.specs.Tallied.{Counted}
use Rattle.shared_objects.specs.Rising.{together}
use Rattle.law_parallel.specs.Putting.{wanted_by}
use Rattle.law_parallel.specs.Remaining.{Remains}
use Rattle.law_parallel.specs.InOrder.{turns_over}
use Rattle.law_parallel.specs.Logs.{Deed, wanted_on}
use Rattle.law_parallel.specs.Puts.{reported_on, placings_on}
use Rattle.law_parallel.specs.LaneWorks.{placings_after, world_after, wire_faults_in, AreLaneWorks, IsLaneBlock}
use Rattle.law_parallel.specs.Workers.{of_worker}
use Rattle.par_lanes.specs.declared.emitted.Emitted.{Emitted}
use Rattle.par_frames.specs.Sorting.{HasJust}
use Rattle.par_frames.specs.Working.{wanted_for, kept, HaveCalled}
use Rattle.par_frames.specs.Leaving.{reported_as, placing_as}
use Rattle.source_devices.specs.declared.wire.Wire as Wire

-- the managers' turns
pub record AreTurns (net : Network) (workers : ℕ) (w : World) (jobs : List Job) (histories : List (List Work)) : Type 0 where
  pub nodes : length histories ≡ net.site.nodes
  pub merged : (v : ℕ) (h : List Work) → slice_get histories v ≡ Some h → IsMerge (map (λ k. asked_by net.site workers k v 0 jobs) (count_up workers)) (map plain_work h)
  pub turns : IsRun net w (actions_in (flat histories))

module _ {X : Type 0} (wire_says : Wire.Ghosts X) (net : Network) where
  -- A lane stood for a world, and its history leads on from there. The history has the calls by which the workers sent frames, each worker those of
  -- its own plans.
  pub record LaneWorked (workers : ℕ) (w : World) (wanted : List (ℕ × Emission)) (l : Lane) : Type 0 where
    pub old : LaneForm X
    pub new : LaneForm X
    pub stands : LaneStands wire_says net w l old
    pub cap : ℕ
    pub outs : List (List (Emission × Emitted))
    pub calls : List (List (ℕ × (LaneAsk × LaneAnswer)))
    pub history : List (LaneAsk × LaneAnswer)
    pub called : HaveCalled old outs calls history
    pub leads : Leads (Turns wire_says cap) old history new
    pub callers : length outs ≡ workers
    pub own : (k : ℕ) (xs : List (Emission × Emitted)) → slice_get outs k ≡ Some xs → map wanted_for xs ≡ of_worker workers k (wanted_on l wanted)

  -- The lane stands for the world that the logs leave. The workers' records of its frames, in order of their places, say what is reported and noted
  -- of them. The faults of its wire are counted.
  pub record LaneLeft (workers : ℕ) (w : World) (wanted : List (ℕ × Emission)) (logs : Lane → List Deed) (l : Lane) (x : LaneWorked workers w wanted l) : Type 0 where
    pub stands : LaneStands wire_says net (world_after net w logs) l x.new
    pub reported : (sorted : List Emitted) → HasJust (together (map kept x.outs)) sorted → IsNonDecreasingBy (λ (e : Emitted). e.at) sorted → map reported_as sorted ≡ reported_on w l (logs l)
    pub placed : (sorted : List Emitted) → HasJust (together (map kept x.outs)) sorted → IsNonDecreasingBy (λ (e : Emitted). e.at) sorted → map placing_as sorted ≡ placings_on net w l (logs l)
    pub faulty : Counted (wire_faults_in (logs l)) (wire_says.faults x.old.wire) (wire_says.faults x.new.wire)

  -- the lanes of a block, after the turns of its managers
  abbrev pub LanesWorked : (workers : ℕ) → World → List (List Work) → Type 0
  LanesWorked workers w histories = (l : Lane) → is_lane net.site l ≡ true → LaneWorked workers (turns_over net w histories) (wanted_by (done_from net w (flat histories))) l

  -- There are logs with which this is a block that the workers may do: on each lane, they sent exactly the frames of the plans. After it, no frame is
  -- on its way to a wire, and each placing that a manager is to note has the size of a frame.
  pub record LanesLeft (workers : ℕ) (w : World) (jobs : List Job) (histories : List (List Work)) (lanes : LanesWorked workers w histories) : Type 0 where
    pub logs : Lane → List Deed
    pub are : AreLaneWorks net workers w jobs histories logs
    pub block : IsLaneBlock net workers w jobs histories logs
    pub each : (l : Lane) (e : is_lane net.site l ≡ true) → LaneLeft workers (turns_over net w histories) (wanted_by (done_from net w (flat histories))) logs l (lanes l e)
    pub running : IsRunning net (world_after net (turns_over net w histories) logs)
    pub remains : Remains net (world_after net (turns_over net w histories) logs) []
    pub sized : (v : ℕ) → list_all (λ (p : Placing). is_frame_size p.length) (placings_after net (turns_over net w histories) logs v) ≡ true
