-- One life of a manager's window: the calls on it, in order, and what it keeps after them.
use Rattle.std.specs.Prelude.{ℕ, ◌&&◌, is_some, List, [], ◌∷◌, map, filter, if◌then◌else◌}
use Rattle.std.specs.List.{AllByRecursion}
use Rattle.qkd_base.specs.Name.{Name}
use Rattle.qkd_base.specs.Lane.{lane_eq, reverse_lane}
use Rattle.qkd_base.specs.declared.lane.Lane.{Lane}
use Rattle.net_model.specs.declared.order.Order.{Order}
use Rattle.net_model.specs.declared.placing.Placing.{Placing}
use Rattle.net_model.specs.declared.repeat.Repeat.{Repeat}
use Rattle.net_model.specs.World.{Entry, PendingAck, Transmission, Volatile}
use Rattle.net_model.specs.Window.{acknowledge, cleared, complete_one}
use Rattle.net_model.specs.Windows.{IsAwaitedAck}
use Rattle.kme_base.specs.Steps.{planned, transmission_of_order}

-- The calls: a frame is heard at an offset of a lane; an acknowledged fact leaves the window; a plan is made; the
-- manager notes what became of a frame, and which names are acknowledged by then.
pub data Call : Type 0 where
  Hear : (lane : Lane) (offset : ℕ) (name : Name) → Call
  LetGo : (lane : Lane) (name : Name) → Call
  Plan : (orders : List Order) (repeats : List Repeat) → Call
  Note : (acked : List Name) (placing : Placing) → Call

-- What the manager keeps in memory after a call.
abbrev pub after : Volatile → Call → Volatile
after vol (Hear l offset n) = acknowledge vol l offset n
after vol (LetGo l n) = record vol { window = cleared l n vol.window }
after vol (Plan orders repeats) = planned orders repeats vol
after vol (Note acked p) = complete_one acked vol p

abbrev pub kept : Volatile → List Call → Volatile
kept vol [] = vol
kept vol (c ∷ cs) = kept (after vol c) cs

-- For each of these transmissions that acknowledges an offset, that acknowledgement is pending.
abbrev pub AreOfPending : Volatile → List Transmission → Type 0
AreOfPending vol ts = AllByRecursion (λ (t : Transmission). IsAwaitedAck vol t t.received_offset) ts

-- A plan orders acknowledgements only of what is pending.
abbrev pub MayCome : Volatile → Call → Type 0
MayCome vol (Plan orders repeats) = AreOfPending vol (map transmission_of_order orders)
MayCome vol _ = Unit {0}

abbrev pub IsLife : Volatile → List Call → Type 0
IsLife vol [] = Unit {0}
IsLife vol (c ∷ cs) = MayCome vol c × IsLife (after vol c) cs

-- The offsets heard on a lane, in order. An offset that was heard several times is listed several times.
abbrev pub heard_in : Lane → Call → List ℕ → List ℕ
heard_in l (Hear k offset n) rest = if lane_eq k l then offset ∷ rest else rest
heard_in l _ rest = rest

abbrev pub heard_on : Lane → List Call → List ℕ
heard_on l [] = []
heard_on l (c ∷ cs) = heard_in l c (heard_on l cs)

-- The window entries on a lane that acknowledge a received frame, and the pending acknowledgements that are to be
-- sent on the lane.
abbrev pub acknowledgements_on : Lane → Volatile → List Entry
acknowledgements_on l vol = filter (λ (e : Entry). lane_eq e.transmission.lane l && is_some e.transmission.received_offset) vol.window

abbrev pub pending_on : Lane → Volatile → List PendingAck
pending_on l vol = filter (λ (a : PendingAck). lane_eq a.lane (reverse_lane l)) vol.pending_acks
