-- Putting frames on the wire of a lane, for the first time and again, as actions of the network.
use Rattle.std.specs.Prelude.{◌≡◌, ℕ, ◌++◌, true, false, List, [], ◌∷◌, length, Some, Result, Ok, Err}
use Rattle.qkd_base.specs.Family.{number_set}
use Rattle.qkd_base.specs.declared.frame_octets.FrameOctets.{FrameOctets}
use Rattle.net_model.specs.declared.order.Order.{Order}
use Rattle.net_model.specs.declared.repeat.Repeat.{Repeat}
use Rattle.net_model.specs.declared.placing.Placing.{Placing}
use Rattle.net_model.specs.Item.{item_name, payload}
use Rattle.net_model.specs.Site.{sender}
use Rattle.net_model.specs.World.{Network, World, Entry}
use Rattle.net_model.specs.Window.{repeat_of}
use Rattle.net_model.specs.Windows.{IsEntry}
use Rattle.net_model.specs.Tick.{item_in, ordered}
use Rattle.net_model.specs.Action.{Environment, OutOfMemory, IoFault, Action, Allocate, Transmit, Outcome, Allocated, Put, Unsent, Ok as Fine}
use Rattle.net_model.specs.Handle.{frame_at, outgoing_repeat}
use Rattle.net_model.specs.Frames.{outgoing_of}
use Rattle.net_model.specs.Step.{step, is_enabled, IsStep, run, outcomes, IsRun}
use Rattle.source_devices.specs.declared.wire.WireFailed.{WireFailed}
use Rattle.source_devices.specs.declared.wire.WireFailed.TheVariants.{Fault, Memory}
use Rattle.lane_sender.specs.Lane.{LaneForm}
use Rattle.lane_sender.specs.declared.sent.Sent.{Sent}
use Rattle.lane_sender.specs.declared.sent.Sent.TheVariants.{Placed, Unsent as NotSent}
use Rattle.lane_sender.specs.Sending.{answer_of, number_of}
use Rattle.world_nodes.specs.LaneStands.{IsRunning, LaneStands}
use Rattle.source_devices.specs.declared.wire.Wire as Wire

-- the answer of a wire, as an answer of the environment
abbrev pub wire_answer : Result ℕ WireFailed → Environment
wire_answer (Ok number) = Fine
wire_answer (Err Fault) = IoFault
wire_answer (Err Memory) = OutOfMemory

abbrev pub wire_outcome : Result ℕ WireFailed → Outcome
wire_outcome (Ok number) = Put number
wire_outcome (Err Fault) = Unsent false
wire_outcome (Err Memory) = Unsent true

abbrev pub offset_of : Sent → ℕ
offset_of (Placed number offset length frame) = offset
offset_of (NotSent cause offset length frame) = offset

abbrev pub length_of : Sent → ℕ
length_of (Placed number offset length frame) = length
length_of (NotSent cause offset length frame) = length

abbrev pub frame_of : Sent → FrameOctets
frame_of (Placed number offset length frame) = frame
frame_of (NotSent cause offset length frame) = frame

-- the sender's note on an order's frame

abbrev pub order_placing : Order → Sent → Placing
order_placing o s =
    record {
      lane = o.lane;
      offset = offset_of s;
      name = item_name (item_in o.payload);
      ack_of = o.ack_of;
      fresh = true;
      number = number_of s;
      length = length_of s;
      frame = frame_of s;
    }

abbrev pub repeat_placing : Repeat → Sent → Placing
repeat_placing r s =
    record {
      lane = r.lane;
      offset = offset_of s;
      name = r.name;
      ack_of = r.ack_of;
      fresh = false;
      number = number_of s;
      length = length_of s;
      frame = frame_of s;
    }

-- the notes of all senders, with this placing added to those of its lane's sender
abbrev pub with_placing : Network → World → Placing → ℕ → List Placing
with_placing net w p = let v = sender net.site p.lane in number_set w.placings v (w.placings v ++ p ∷ [])

-- The order is one of the network that isn't claimed yet. The payload is the one that the table has for it, and the lease is its lane's.
pub record MayEmit {X : Type 0} (wire_says : Wire.Ghosts X) (net : Network) (w : World) (side : LaneForm X) (lease : ℕ) (order : Order) : Type 0 where
  pub running : IsRunning net w
  pub stands : LaneStands wire_says net w order.lane side
  pub enabled : is_enabled net w (Allocate (ordered order)) ≡ true
  pub spelled : payload w.durable.facts (item_in order.payload) ≡ Some order.payload
  pub leased : lease ≡ w.durable.lease order.lane

-- The order gets the next bytes of its lane, and its frame, the lane's next one, is put or refused.
abbrev pub emission : World → Order → Environment → List Action
emission w o environment = Allocate (ordered o) ∷ Transmit o.lane (length (w.frames o.lane)) environment ∷ []

pub record Emitted {X : Type 0} (wire_says : Wire.Ghosts X) (net : Network) (w : World) (side : LaneForm X) (order : Order) (s : Sent) : Type 0 where
  pub may : IsRun net w (emission w order (wire_answer (answer_of s)))
  pub said : outcomes net w (emission w order (wire_answer (answer_of s))) ≡ Allocated (offset_of s) ∷ wire_outcome (answer_of s) ∷ []
  pub stands : LaneStands wire_says net (run net w (emission w order (wire_answer (answer_of s)))) order.lane side
  pub placed : (run net w (emission w order (wire_answer (answer_of s)))).placings ≡ with_placing net w (order_placing order s)

-- The repeat is of an entry of the window, and its frame may be put.
pub record MayRepeat {X : Type 0} (wire_says : Wire.Ghosts X) (net : Network) (w : World) (side : LaneForm X) (repeat : Repeat) : Type 0 where
  pub running : IsRunning net w
  pub stands : LaneStands wire_says net w repeat.lane side
  pub entry : Entry
  pub is : repeat ≡ repeat_of entry
  pub sent : IsEntry net w (sender net.site repeat.lane) entry
  pub outgoing : outgoing_of (frame_at (w.frames repeat.lane) repeat.offset) (w.outgoing repeat.lane) ≡ Some (outgoing_repeat (w.frames repeat.lane) entry)

-- The frame at the repeat's offset is put again or refused.
abbrev pub repetition : World → Repeat → Environment → Action
repetition w r environment = Transmit r.lane (frame_at (w.frames r.lane) r.offset) environment

pub record Repeated {X : Type 0} (wire_says : Wire.Ghosts X) (net : Network) (w : World) (side : LaneForm X) (repeat : Repeat) (s : Sent) : Type 0 where
  pub may : IsStep net w (repetition w repeat (wire_answer (answer_of s)))
  pub said : (step net w (repetition w repeat (wire_answer (answer_of s)))).1 ≡ wire_outcome (answer_of s)
  pub stands : LaneStands wire_says net (step net w (repetition w repeat (wire_answer (answer_of s)))).0 repeat.lane side
  pub placed : (step net w (repetition w repeat (wire_answer (answer_of s)))).0.placings ≡ with_placing net w (repeat_placing repeat s)
