-- The work of workers on a lane of a block, as deeds.
use Rattle.std.specs.Prelude.{◌≡◌, ℕ, true, List, map}
use Rattle.std.specs.List.{list_all, AllZip, AllByRecursion}
use Rattle.net_model.specs.Tick.{Emission}
use Rattle.net_model.specs.BlockOrder.{IsMerge}
use Rattle.lane_sender.specs.Lane.{LaneForm}
use Rattle.par_lanes.specs.declared.ask.LaneAsk.{LaneAsk}
use Rattle.par_lanes.specs.declared.ask.LaneAnswer.{LaneAnswer}
use Rattle.law_parallel.specs.Logs.{Deed, claims_put, done_for_plans, is_answered}
use Rattle.law_parallel.specs.Calls.{placed_from, deeds, claims_made}
use Rattle.par_lanes.specs.declared.emitted.Emitted.{Emitted}
use Rattle.par_lanes.specs.Calls.{IsOf, CallAllBy}
use Rattle.par_frames.specs.LaneCalls.{LaneCall, asked, deed_of, kept_in, IsSound}

-- The frame is recorded with the place of its line.
abbrev pub IsOfItsLine : Emission × Emitted → Type 0
IsOfItsLine x = IsOf x.1.line x.0 x.1

abbrev pub wanted_for : Emission × Emitted → ℕ × Emission
wanted_for x = (x.1.line, x.0)

abbrev pub kept : List (Emission × Emitted) → List Emitted
kept outs = map (λ (x : Emission × Emitted). x.1) outs

-- Each worker sent frames by its calls of the lane, and the lane's history is a merge of these calls.
pub record HaveCalled {X : Type 0} (side : LaneForm X) (outs : List (List (Emission × Emitted))) (calls : List (List (ℕ × (LaneAsk × LaneAnswer)))) (history : List (LaneAsk × LaneAnswer)) : Type 0 where
  pub merged : IsMerge calls (placed_from 0 history)
  pub by : AllZip (CallAllBy side) outs calls
  pub each : AllByRecursion (AllByRecursion IsOfItsLine) outs

-- the deeds by which a worker sent frames, with their places
pub record DidFor (outs : List (Emission × Emitted)) (mine : List (ℕ × Deed)) : Type 0 where
  pub wants : done_for_plans (deeds mine) ≡ map wanted_for outs
  pub puts : claims_put (deeds mine) ≡ claims_made mine
  pub answered : list_all is_answered (deeds mine) ≡ true

-- The lane's history is a log of calls and a merge of what the workers did. Their records merge in the same order as their calls.
pub record HaveDone {X : Type 0} (side : LaneForm X) (outs : List (List (Emission × Emitted))) (history : List (LaneAsk × LaneAnswer)) : Type 0 where
  pub log : List LaneCall
  pub entries : map (asked side.lane side.bytes) log ≡ history
  pub sound : AllByRecursion (IsSound side.lane side.bytes log) (placed_from 0 log)
  pub done : List (List (ℕ × Deed))
  pub merged : IsMerge done (placed_from 0 (map deed_of log))
  pub each : AllZip DidFor outs done
  pub keep : IsMerge (map kept outs) (kept_in log)
