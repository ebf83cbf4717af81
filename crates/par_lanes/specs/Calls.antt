-- The calls of a lane that send frames, and the worker's record of each frame.
use Rattle.std.specs.Prelude.{◌≡◌, ℕ, ◌-◌, Bool, true, false, Option, List, [], ◌∷◌, ◌++◌, length, filter}
use Rattle.qkd_base.specs.Name.{Name}
use Rattle.net_model.specs.declared.order.Order.{Order}
use Rattle.net_model.specs.declared.repeat.Repeat.{Repeat}
use Rattle.net_model.specs.Facts.{payload_len}
use Rattle.net_model.specs.Item.{item_name}
use Rattle.net_model.specs.Tick.{Emission, Again, New, item_in}
use Rattle.net_model.specs.Window.{room_octets}
use Rattle.frame_codec.specs.Payload.{payload_octets}
use Rattle.hop_frames.specs.Frame.{spell}
use Rattle.lane_shares.specs.declared.share.Share.{Share}
use Rattle.lane_sender.specs.declared.claimed.Claimed.{Claimed}
use Rattle.lane_sender.specs.Lane.{LaneForm, frame_need}
use Rattle.lane_sender.specs.Sending.{sent, sent_frame, answer_of}
use Rattle.par_lanes.specs.declared.ask.LaneAsk.{LaneAsk}
use Rattle.par_lanes.specs.declared.ask.LaneAsk.TheVariants as asks
use Rattle.par_lanes.specs.declared.ask.LaneAnswer.{LaneAnswer}
use Rattle.par_lanes.specs.declared.ask.LaneAnswer.TheVariants as answers
use Rattle.par_lanes.specs.declared.emitted.Emitted.{Emitted}
use Rattle.par_lanes.specs.Wants.{lane_for, is_at}

-- in a frame's record: the name of its fact, the offset of the frame that it acknowledges, whether it is new, and the length of its payload

abbrev pub name_for : Emission → Name
name_for (Again r) = r.name
name_for (New o) = item_name (item_in o.payload)

abbrev pub ack_for : Emission → Option ℕ
ack_for (Again r) = r.ack_of
ack_for (New o) = o.ack_of

abbrev pub fresh_for : Emission → Bool
fresh_for (Again r) = false
fresh_for (New o) = true

abbrev pub size_for : Emission → ℕ
size_for (Again r) = r.length - 24
size_for (New o) = payload_len o.payload

-- This is the record of the frame, which the plan of this line sent.
pub record IsOf (place : ℕ) (e : Emission) (out : Emitted) : Type 0 where
  pub line : out.line ≡ place
  pub lane : out.lane ≡ lane_for e
  pub name : out.name ≡ name_for e
  pub ack_of : out.ack_of ≡ ack_for e
  pub fresh : out.fresh ≡ fresh_for e
  pub size : out.size ≡ size_for e

-- Each call of a lane has its place in the lane's history.

-- One call puts the frame again.
pub record RepeatsBy (r : Repeat) (out : Emitted) (calls : List (ℕ × (LaneAsk × LaneAnswer))) : Type 0 where
  pub are : calls ≡ (out.at, (asks.Again r.number r.frame r.length, answers.Placed (answer_of out.sent))) ∷ []
  pub says : out.sent ≡ sent r.offset r.length r.frame (answer_of out.sent)

-- One call claims bytes, and the next one puts the payload's frame: its only encoding over the claimed bytes.
pub record SendsBy {X : Type 0} (side : LaneForm X) (o : Order) (out : Emitted) (calls : List (ℕ × (LaneAsk × LaneAnswer))) : Type 0 where
  pub claim_at : ℕ
  pub grant : Share
  pub claimed : Claimed
  pub frame : List ℕ
  pub are : calls ≡ (claim_at, (asks.Claim (frame_need o.payload) grant, answers.Claimed claimed)) ∷ (out.at, (asks.Put (room_octets frame) (length frame), answers.Placed (answer_of out.sent))) ∷ []
  pub need : claimed.range.len ≡ frame_need o.payload
  pub spelled : frame ≡ spell side.lane claimed.range.start side.bytes (payload_octets o.payload)
  pub says : out.sent ≡ sent_frame claimed.range.start frame (answer_of out.sent)

abbrev pub CallsBy : {X : Type 0} → LaneForm X → Emission → Emitted → List (ℕ × (LaneAsk × LaneAnswer)) → Type 0
CallsBy side (Again r) out calls = RepeatsBy r out calls
CallsBy side (New o) out calls = SendsBy side o out calls

-- The frames are sent in order, by these calls and no others.
abbrev pub CallAllBy : {X : Type 0} → LaneForm X → List (Emission × Emitted) → List (ℕ × (LaneAsk × LaneAnswer)) → Type 0
CallAllBy side [] calls = calls ≡ []
CallAllBy side (x ∷ xs) calls = (first rest : List (ℕ × (LaneAsk × LaneAnswer))) × (calls ≡ first ++ rest) × CallsBy side x.0 x.1 first × CallAllBy side xs rest

-- the frames that are sent on the lane at a place
abbrev pub emitted_at : ℕ → List (Emission × Emitted) → List (Emission × Emitted)
emitted_at i outs = filter (λ x. is_at i x.0) outs
