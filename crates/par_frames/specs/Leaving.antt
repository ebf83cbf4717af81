-- The state in which workers leave a lane.
use Rattle.std.specs.Prelude.{◌≡◌, List, map}
use Rattle.qkd_base.specs.declared.lane.Lane.{Lane}
use Rattle.net_model.specs.declared.placing.Placing.{Placing}
use Rattle.net_model.specs.World.{Network, World}
use Rattle.run_model.specs.Outcomes.{put_items}
use Rattle.run_model.specs.Block.{PutDone, is_put}
use Rattle.lane_sender.specs.Lane.{LaneForm}
use Rattle.lane_sender.specs.Sending.{answer_of, number_of}
use Rattle.world_state.specs.Passed.{LaneStands, wire_outcome, offset_of, length_of, frame_of}
use Rattle.world_state.specs.Tallied.{Counted}
use Rattle.law_parallel.specs.Logs.{Deed}
use Rattle.law_parallel.specs.Puts.{reported_on, placings_on}
use Rattle.law_parallel.specs.LaneWorks.{world_after, wire_faults_in}
use Rattle.par_lanes.specs.declared.emitted.Emitted.{Emitted}
use Rattle.par_frames.specs.LaneCalls.{LaneCall, kept_in}
use Rattle.source_devices.specs.declared.wire.Wire as Wire

-- what is reported of a frame that was put
abbrev pub reported_as : Emitted → PutDone
reported_as e =
    record {
      lane = e.lane;
      offset = offset_of e.sent;
      place = e.line;
      took = is_put (wire_outcome (answer_of e.sent));
      reported = put_items e.lane (offset_of e.sent) e.size (wire_outcome (answer_of e.sent));
    }

-- what the frame's sender is to note
abbrev pub placing_as : Emitted → Placing
placing_as e =
    record {
      lane = e.lane;
      offset = offset_of e.sent;
      name = e.name;
      ack_of = e.ack_of;
      fresh = e.fresh;
      number = number_of e.sent;
      length = length_of e.sent;
      frame = frame_of e.sent;
    }

-- After the block, the lane stands for the world that its log leaves. The records of its frames, in order of its history, say what is reported and
-- noted of them. The faults of its wire are counted.
pub record IsLeftBy {X : Type 0} (wire_says : Wire.Ghosts X) (net : Network) (w : World) (logs : Lane → List Deed) (l : Lane)
    (log : List LaneCall) (old new : LaneForm X) : Type 0 where
  pub stands : LaneStands wire_says net (world_after net w logs) l new
  pub reported : map reported_as (kept_in log) ≡ reported_on w l (logs l)
  pub placed : map placing_as (kept_in log) ≡ placings_on net w l (logs l)
  pub faulty : Counted (wire_faults_in (logs l)) (wire_says.faults old.wire) (wire_says.faults new.wire)
