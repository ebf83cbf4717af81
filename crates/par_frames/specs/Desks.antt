-- The desk of a lane among other machines that workers call.
use Rattle.std.specs.Prelude.{ℕ, List, map}
use Rattle.std.specs.List.{AllZip, AllByRecursion}
use Rattle.net_model.specs.Tick.{Emission}
use Rattle.net_model.specs.BlockOrder.{IsMerge}
use Rattle.shared_objects.specs.declared.either.Either.{Either}
use Rattle.shared_objects.specs.Histories.{on_right}
use Rattle.shared_objects.specs.Said.{Said, said_on}
use Rattle.lane_sender.specs.Lane.{LaneForm}
use Rattle.par_lanes.specs.declared.ask.LaneAsk.{LaneAsk}
use Rattle.par_lanes.specs.declared.ask.LaneAnswer.{LaneAnswer}
use Rattle.par_lanes.specs.declared.emitted.Emitted.{Emitted}
use Rattle.par_lanes.specs.Calls.{emitted_at}
use Rattle.par_lanes.specs.Saying.{IsCalledFor}
use Rattle.shared_objects.specs.Rising.{placed_from}
use Rattle.par_frames.specs.Working.{IsOfItsLine, HaveCalled}

module _ {X Q A : Type 0} (side : LaneForm X) (machine place : ℕ) where
  -- Each worker's calls of the desk are those that send its frames of the lane, and the desk's history is a merge of these calls.
  pub record IsDeskOf (outs : List (List (Emission × Emitted))) (said : List (List (Said (Either Q LaneAsk) (Either A LaneAnswer)))) (history : List (LaneAsk × LaneAnswer)) : Type 0 where
    pub each : AllZip (IsCalledFor side machine place) outs said
    pub merged : IsMerge (map (said_on machine) said) (placed_from 0 (map on_right history))
    pub told : AllByRecursion (AllByRecursion IsOfItsLine) outs

-- The workers called the lane for these frames.
pub record DeskWorked {X : Type 0} (side : LaneForm X) (place : ℕ) (outs : List (List (Emission × Emitted))) (history : List (LaneAsk × LaneAnswer)) : Type 0 where
  pub calls : List (List (ℕ × (LaneAsk × LaneAnswer)))
  pub called : HaveCalled side (map (emitted_at place) outs) calls history
