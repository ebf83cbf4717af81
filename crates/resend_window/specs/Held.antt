-- A sent frame as a record, and the window entry that it stands for at a tick.
use Rattle.std.specs.Prelude.{◌≡◌, ℕ, ◌+◌, ◌-◌, ◌≤◌, ◌<◌, ◌^◌, ◌==◌, ◌&&◌, ◌||◌, nat_le, Bool, false, List, [], ◌∷◌, map, take, length, is_none, if◌then◌else◌}
use Rattle.std.specs.List.{list_any}
use Rattle.qkd_base.specs.Lane.{lane_eq}
use Rattle.qkd_base.specs.Name.{Name}
use Rattle.qkd_base.specs.declared.lane.Lane.{Lane}
use Rattle.net_model.specs.Item.{Item, DataItem, AckItem, item_of}
use Rattle.net_model.specs.World.{Entry, Transmission, PendingAck}
use Rattle.net_model.specs.Window.{room_octets}
use Rattle.resend_window.specs.declared.held.Held.{Held}
use Rattle.resend_window.specs.declared.arrival.Arrival.{Arrival}
use Rattle.resend_window.specs.declared.awaited.Awaited.{Awaited}

-- the entry's age is the number of ticks since the frame was sent; only the frames of facts become due by age
abbrev pub entry_at : ℕ → Held → Entry
entry_at now h =
    record {
      transmission = record { lane = h.lane; item = item_of h.ack_of h.name; received_offset = h.ack_of };
      offset = h.offset;
      number = h.number;
      age = if is_none h.ack_of then now - h.sent else 0;
      due = h.due || (is_none h.ack_of && nat_le 4 (now - h.sent));
      frame = take h.length h.frame.octets;
    }

abbrev pub entries_at : ℕ → List Held → List Entry
entries_at now hs = map (entry_at now) hs

-- The frame was sent at this tick or before, its unused octets are zero, it is ripe exactly if its age makes it due at the next tick, and
-- its offset fits in 64 bits.
pub record IsHeld (now : ℕ) (h : Held) : Type 0 where
  pub sent : h.sent ≤ now
  pub size : length (take h.length h.frame.octets) ≡ h.length
  pub clean : h.frame ≡ room_octets (take h.length h.frame.octets)
  pub ripe : h.ripe ≡ (is_none h.ack_of && nat_le 4 ((now + 1) - h.sent))
  pub place : h.offset < 2 ^ 64

-- each frame of the list is valid at this tick
abbrev pub AreHeld : ℕ → List Held → Type 0
AreHeld now [] = Unit {0}
AreHeld now (h ∷ hs) = IsHeld now h × AreHeld now hs

abbrev pub stand_together : Held → Held → Bool
stand_together h k = lane_eq h.lane k.lane && (h.offset == k.offset)

-- no two frames have the same lane and offset
abbrev pub AreApart : List Held → Type 0
AreApart [] = Unit {0}
AreApart (h ∷ hs) = (list_any (stand_together h) hs ≡ false) × AreApart hs

-- the frame is sent again at the next plan
abbrev pub is_ready : Held → Bool
is_ready h = h.due || h.ripe

-- the frame is due on this lane at this tick
abbrev pub is_next_on : ℕ → Lane → Held → Bool
is_next_on now l h = lane_eq h.lane l && (entry_at now h).due

-- pending acknowledgements, and orders that await their placings

abbrev pub pending_ack : Arrival → PendingAck
pending_ack a = record { lane = a.lane; offset = a.offset; name = a.name }

abbrev pub item_by : Bool → Name → Item
item_by is_ack n = if is_ack then AckItem n else DataItem n

abbrev pub transmission : Awaited → Transmission
transmission a = record { lane = a.lane; item = item_by a.is_ack a.name; received_offset = a.ack_of }
