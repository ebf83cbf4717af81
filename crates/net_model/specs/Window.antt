-- A manager's window: the frames that it sent and may send again, and the acknowledgements that it still owes.
use Rattle.std.specs.Prelude.{ℕ, ◌+◌, ◌-◌, ◌==◌, ◌&&◌, ◌||◌, not, nat_lt, nat_le, Bool, true, false, List, [], ◌∷◌, ◌++◌, length, map, filter, take, replicate, is_some, is_none, Option, Some, None, if◌then◌else◌}
use Rattle.std.specs.List.{list_any}
use Rattle.qkd_base.specs.Name.{Name, has}
use Rattle.qkd_base.specs.Lane.{lane_eq, reverse_lane}
use Rattle.qkd_base.specs.declared.lane.Lane.{Lane}
use Rattle.qkd_base.specs.declared.frame_octets.FrameOctets.{FrameOctets}
use Rattle.net_model.specs.declared.placing.Placing.{Placing}
use Rattle.net_model.specs.declared.repeat.Repeat.{Repeat}
use Rattle.net_model.specs.Item.{Item, DataItem, AckItem, item_eq, item_name, item_of, is_data_of}
use Rattle.net_model.specs.World.{Entry, PendingAck, Transmission, Volatile}

abbrev pub offset_eq : Option ℕ → Option ℕ → Bool
offset_eq None None = true
offset_eq None (Some b) = false
offset_eq (Some a) None = false
offset_eq (Some a) (Some b) = a == b

abbrev pub transmission_eq : Transmission → Transmission → Bool
transmission_eq a b = lane_eq a.lane b.lane && item_eq a.item b.item && offset_eq a.received_offset b.received_offset

-- ---- receiving a frame

-- the transmission acknowledges the frame that was received on this lane at this offset
abbrev pub answers_frame : Lane → ℕ → Transmission → Bool
answers_frame l offset t = lane_eq t.lane (reverse_lane l) && offset_eq t.received_offset (Some offset)

abbrev pub mark_due : Lane → ℕ → Entry → Entry
mark_due l offset e = if answers_frame l offset e.transmission then record e { due = true } else e

-- A received frame gets one acknowledgement in each life of the manager. If it was already sent, it is due again. If it
-- is pending, it stays so. Otherwise it becomes pending.
unfoldable pub acknowledge : Volatile → Lane → ℕ → Name → Volatile
acknowledge vol l offset n =
    if list_any (λ e. answers_frame l offset e.transmission) vol.window then record vol { window = map (mark_due l offset) vol.window }
    else if list_any (λ a. lane_eq a.lane l && (a.offset == offset)) vol.pending_acks then vol
    else record vol { pending_acks = vol.pending_acks ++ record { lane = l; offset = offset; name = n } ∷ [] }

-- the window without the entries of this fact that went to this neighbour
abbrev pub cleared : Lane → Name → List Entry → List Entry
cleared l n es = filter (λ e. not (lane_eq e.transmission.lane (reverse_lane l) && is_data_of n e.transmission.item)) es

-- ---- planning

abbrev pub is_data_entry : Entry → Bool
is_data_entry e = is_none e.transmission.received_offset

-- an entry of a fact gets one tick older, and is due from age 4 on
abbrev pub age : Entry → Entry
age e = if is_data_entry e then record e { age = e.age + 1; due = e.due || nat_le 4 (e.age + 1) } else e

abbrev pub insert_entry : Entry → List Entry → List Entry
insert_entry e [] = e ∷ []
insert_entry e (x ∷ xs) = if nat_lt e.offset x.offset then e ∷ x ∷ xs else x ∷ insert_entry e xs

abbrev pub by_offset : List Entry → List Entry
by_offset [] = []
by_offset (e ∷ es) = insert_entry e (by_offset es)

-- the entries of a lane that are sent again: the due ones, at most 16, in order of offset
unfoldable pub repeats_on : List Entry → Lane → List Entry
repeats_on window l = take 16 (by_offset (filter (λ e. lane_eq e.transmission.lane l && e.due) window))

-- an entry that is sent again has age 0 and is not due
abbrev pub sent_again : List Entry → Entry → Entry
sent_again out e =
    if list_any (λ x. lane_eq x.transmission.lane e.transmission.lane && (x.offset == e.offset)) out then record e { age = 0; due = false } else e

-- a buffer that begins with a frame
abbrev pub room_octets : List ℕ → FrameOctets
room_octets frame = record { octets = frame ++ replicate (600 - length frame) 0 }

abbrev pub repeat_of : Entry → Repeat
repeat_of e =
    record {
      lane = e.transmission.lane;
      offset = e.offset;
      number = e.number;
      name = item_name e.transmission.item;
      ack_of = e.transmission.received_offset;
      length = length e.frame;
      frame = room_octets e.frame;
    }

-- ---- noting what became of orders and repeats

abbrev pub stands_at : Placing → Entry → Bool
stands_at p e = lane_eq e.transmission.lane p.lane && (e.offset == p.offset)

-- a repeat that was put has a new number on the wire; a repeat that was refused is due at the next tick
abbrev pub record_retransmission : Placing → Entry → Entry
record_retransmission p e =
    if stands_at p e then (if is_some p.number then record e { number = p.number } else record e { due = true }) else e

abbrev pub transmission_of : Placing → Transmission
transmission_of p = record { lane = p.lane; item = item_of p.ack_of p.name; received_offset = p.ack_of }

-- a new entry has age 0; it is due at the next tick if the wire refused its frame
abbrev pub entry_of : Placing → Entry
entry_of p =
    record {
      transmission = transmission_of p;
      offset = p.offset;
      number = p.number;
      age = 0;
      due = is_none p.number;
      frame = take p.length p.frame.octets;
    }

abbrev pub is_acked_item : List Name → Item → Bool
is_acked_item acked (DataItem n) = has acked n
is_acked_item acked (AckItem n) = false

-- the transmission sends this pending acknowledgement
abbrev pub is_pending_of : Transmission → PendingAck → Bool
is_pending_of t a = answers_frame a.lane a.offset t

-- One placing. An order that awaited it becomes an entry, unless it is a fact that was acknowledged in the meantime.
-- Nothing changes if no such order was awaited, or if an entry of the lane has the same offset. A repeat without an
-- entry changes nothing either.
unfoldable pub complete_one : List Name → Volatile → Placing → Volatile
complete_one acked vol p =
    let t = transmission_of p in
    if p.fresh then
    (if list_any (transmission_eq t) vol.awaiting && not (list_any (stands_at p) vol.window)
    then record {
      window = if is_acked_item acked t.item then vol.window else vol.window ++ entry_of p ∷ [];
      pending_acks = filter (λ a. not (is_pending_of t a)) vol.pending_acks;
      awaiting = filter (λ x. not (transmission_eq t x)) vol.awaiting;
    } else vol)
    else record vol { window = map (record_retransmission p) vol.window }

unfoldable pub complete : List Name → Volatile → List Placing → Volatile
complete acked vol [] = vol
complete acked vol (p ∷ ps) = complete acked (complete_one acked vol p) ps
