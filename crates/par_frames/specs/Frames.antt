-- The frames that a block's workers put, as they are reported and noted.
use Rattle.std.specs.Prelude.{ℕ, ◌==◌, List, filter}
use Rattle.qkd_base.specs.Lane.{lane_eq}
use Rattle.qkd_base.specs.declared.lane.Lane.{Lane}
use Rattle.net_model.specs.declared.placing.Placing.{Placing}
use Rattle.net_model.specs.Site.{Site, sender}
use Rattle.run_model.specs.Outcomes.{put_items}
use Rattle.run_model.specs.Block.{PutDone, is_put}
use Rattle.lane_sender.specs.Sending.{answer_of, number_of}
use Rattle.world_state.specs.Passed.{wire_outcome, offset_of, length_of, frame_of}
use Rattle.par_lanes.specs.declared.emitted.Emitted.{Emitted}

-- how a frame is reported
abbrev pub frame_done : Emitted → PutDone
frame_done e =
    record {
      lane = e.lane;
      offset = offset_of e.sent;
      place = e.line;
      took = is_put (wire_outcome (answer_of e.sent));
      reported = put_items e.lane (offset_of e.sent) e.size (wire_outcome (answer_of e.sent));
    }

-- what the sender of its lane notes of a frame
abbrev pub frame_placing : Emitted → Placing
frame_placing e =
    record {
      lane = e.lane;
      offset = offset_of e.sent;
      name = e.name;
      ack_of = e.ack_of;
      fresh = e.fresh;
      number = number_of e.sent;
      length = length_of e.sent;
      frame = frame_of e.sent;
    }

-- the frames on a lane, and the frames on the lanes that leave a node

abbrev pub on_lane : Lane → List Emitted → List Emitted
on_lane l frames = filter (λ (e : Emitted). lane_eq e.lane l) frames

abbrev pub from_node : Site → ℕ → List Emitted → List Emitted
from_node s v frames = filter (λ (e : Emitted). sender s e.lane == v) frames
