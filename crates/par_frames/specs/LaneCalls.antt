-- The calls of workers on a lane, and the frames that they are for.
use Rattle.std.specs.Prelude.{◌≡◌, ℕ, List, [], ◌∷◌, length, slice_get, Some}
use Rattle.std.specs.List.{flat_map}
use Rattle.qkd_base.specs.declared.lane.Lane.{Lane}
use Rattle.net_model.specs.declared.order.Order.{Order}
use Rattle.net_model.specs.declared.repeat.Repeat.{Repeat}
use Rattle.net_model.specs.Tick.{Again, New}
use Rattle.net_model.specs.Window.{room_octets}
use Rattle.frame_codec.specs.Payload.{payload_octets}
use Rattle.hop_frames.specs.Frame.{spell}
use Rattle.lane_shares.specs.declared.share.Share.{Share}
use Rattle.lane_sender.specs.declared.claimed.Claimed.{Claimed}
use Rattle.lane_sender.specs.Lane.{frame_need}
use Rattle.lane_sender.specs.Sending.{sent, sent_frame, answer_of}
use Rattle.par_lanes.specs.declared.ask.LaneAsk.{LaneAsk}
use Rattle.par_lanes.specs.declared.ask.LaneAsk.TheVariants as asks
use Rattle.par_lanes.specs.declared.ask.LaneAnswer.{LaneAnswer}
use Rattle.par_lanes.specs.declared.ask.LaneAnswer.TheVariants as answers
use Rattle.law_parallel.specs.Logs.{Deed, Claims, Puts, Repeats}
use Rattle.world_state.specs.Passed.{wire_answer}
use Rattle.par_lanes.specs.declared.emitted.Emitted.{Emitted}
use Rattle.par_lanes.specs.Calls.{IsOf}

-- A call on a lane does one of three things. It claims bytes for an order of a line's plan, it puts the frame that was sealed over the bytes of an
-- earlier claim, or it puts a frame again.
pub data LaneCall : Type 0 where
  ClaimsFor : (line : ℕ) → (order : Order) → (grant : Share) → (claimed : Claimed) → LaneCall
  PutsFor : (claim : ℕ) → (order : Order) → (claimed : Claimed) → (out : Emitted) → LaneCall
  RepeatsFor : (repeat : Repeat) → (out : Emitted) → LaneCall

-- the frame of an order over the claimed bytes, on a lane with these bytes
abbrev pub frame_over : Lane → List ℕ → Order → Claimed → List ℕ
frame_over l bytes o claimed = spell l claimed.range.start bytes (payload_octets o.payload)

-- the lane's request and answer
abbrev pub asked : Lane → List ℕ → LaneCall → LaneAsk × LaneAnswer
asked l bytes (ClaimsFor line o grant claimed) = (asks.Claim (frame_need o.payload) grant, answers.Claimed claimed)
asked l bytes (PutsFor claim o claimed out) = (asks.Put (room_octets (frame_over l bytes o claimed)) (length (frame_over l bytes o claimed)), answers.Placed (answer_of out.sent))
asked l bytes (RepeatsFor r out) = (asks.Again r.number r.frame r.length, answers.Placed (answer_of out.sent))

abbrev pub deed_of : LaneCall → Deed
deed_of (ClaimsFor line o grant claimed) = Claims line o
deed_of (PutsFor claim o claimed out) = Puts claim (wire_answer (answer_of out.sent))
deed_of (RepeatsFor r out) = Repeats out.line r (wire_answer (answer_of out.sent))

-- the caller's record of the frame that it put
abbrev pub kept_of : LaneCall → List Emitted
kept_of (ClaimsFor line o grant claimed) = []
kept_of (PutsFor claim o claimed out) = out ∷ []
kept_of (RepeatsFor r out) = out ∷ []

abbrev pub kept_in : List LaneCall → List Emitted
kept_in log = flat_map kept_of log

-- The record of an order's frame. The call at its place put the frame, which was sealed over the bytes that another call claimed for the order.
pub record PutsClaimed (l : Lane) (bytes : List ℕ) (log : List LaneCall) (place claim : ℕ) (o : Order) (claimed : Claimed) (out : Emitted) : Type 0 where
  pub at : out.at ≡ place
  pub of : IsOf out.line (New o) out
  pub says : out.sent ≡ sent_frame claimed.range.start (frame_over l bytes o claimed) (answer_of out.sent)
  pub grant : Share
  pub claims : slice_get log claim ≡ Some (ClaimsFor out.line o grant claimed)

-- The record of a repeated frame: the frame was put by the call at its place.
pub record PutsAgain (place : ℕ) (r : Repeat) (out : Emitted) : Type 0 where
  pub at : out.at ≡ place
  pub of : IsOf out.line (Again r) out
  pub says : out.sent ≡ sent r.offset r.length r.frame (answer_of out.sent)

-- The record of a call's frame agrees with the call and with its place in the log.
abbrev pub IsSound : Lane → List ℕ → List LaneCall → ℕ × LaneCall → Type 0
IsSound l bytes log (place, ClaimsFor line o grant claimed) = Unit {0}
IsSound l bytes log (place, PutsFor claim o claimed out) = PutsClaimed l bytes log place claim o claimed out
IsSound l bytes log (place, RepeatsFor r out) = PutsAgain place r out
