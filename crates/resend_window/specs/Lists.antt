-- What the operations on a window's lists do.
use Rattle.std.specs.Prelude.{◌≡◌, ℕ, ◌+◌, ◌≤◌, ◌==◌, ◌&&◌, nat_lt, Bool, true, false, List, map, filter, length, is_none, Option, Some, None, if◌then◌else◌, MatchOption, drop}
use Rattle.std.specs.List.{list_any}
use Rattle.std.specs.Option.{option_map}
use Rattle.qkd_base.specs.Lane.{lane_eq}
use Rattle.qkd_base.specs.declared.lane.Lane.{Lane}
use Rattle.net_model.specs.declared.repeat.Repeat.{Repeat}
use Rattle.net_model.specs.World.{PendingAck, Volatile}
use Rattle.net_model.specs.Window.{transmission_eq}
use Rattle.resend_window.specs.declared.held.Held.{Held}
use Rattle.resend_window.specs.declared.arrival.Arrival.{Arrival}
use Rattle.resend_window.specs.declared.awaited.Awaited.{Awaited}
use Rattle.resend_window.specs.declared.arrival.Pending.{Pending}
use Rattle.resend_window.specs.declared.arrival.Arrivals.{Arrivals}
use Rattle.resend_window.specs.declared.arrival.Arrivals.TheVariants.{Of, From}
use Rattle.resend_window.specs.Kept.{somes}
use Rattle.resend_window.specs.Held.{transmission, pending_ack, entries_at, AreHeld, AreApart}

-- the query finds this arrival
abbrev pub is_from : Arrivals → Arrival → Bool
is_from (Of l) a = lane_eq a.lane l
is_from (From l x) a = lane_eq a.lane l && (a.offset == x)

-- the pending acknowledgement of a slot
abbrev pub pending_of : ℕ → Option (Option Arrival) → Option Pending
pending_of place None = None
pending_of place (Some None) = None
pending_of place (Some (Some a)) = Some (record { place = place; offset = a.offset; name = a.name })

-- the pending acknowledgements of frames that arrived on this lane, from a place on
abbrev pub rest_of : Lane → List (Option Arrival) → ℕ → List PendingAck
rest_of l ps from = filter (λ a. lane_eq a.lane l) (somes (drop from (map (option_map pending_ack) ps)))

-- the arrival is the one on this lane at this offset, if there is an offset
abbrev pub is_some_from : Lane → Option ℕ → Arrival → Bool
is_some_from l None a = false
is_some_from l (Some x) a = is_from (From l x) a

-- both orders send the same
abbrev pub is_same : Awaited → Awaited → Bool
is_same w a = transmission_eq (transmission w) (transmission a)

-- the frame is one of these repeats
abbrev pub is_repeated : List Repeat → Held → Bool
is_repeated rs h = list_any (λ (x : Repeat). lane_eq x.lane h.lane && (x.offset == h.offset)) rs

abbrev pub renewed_by : ℕ → List Repeat → Held → Held
renewed_by tick rs h = if is_repeated rs h then record h { sent = tick; due = false; ripe = false } else h

-- at a tick, the frames with facts that were last sent three ticks before become ripe
abbrev pub ripened_at : ℕ → Held → Held
ripened_at tick h = if is_none h.ack_of && (h.sent + 3 == tick) then record h { ripe = true } else h

-- the lesser of two optional numbers, of which `None` is the greatest
abbrev pub lesser : Option ℕ → Option ℕ → Option ℕ
lesser None b = b
lesser (Some a) None = Some a
lesser (Some a) (Some b) = Some (if nat_lt b a then b else a)

-- the least offset of the frames that pass a test, if any passes
abbrev pub IsLeast : (Held → Bool) → List Held → Option ℕ → Type 0
IsLeast t hs o = MatchOption o (list_any t hs ≡ false) (λ x. (list_any (λ h. t h && (h.offset == x)) hs ≡ true) × (list_any (λ h. t h && nat_lt h.offset x) hs ≡ false))

-- the frames are valid, no two have the same lane and offset, and there is room for the frames of all awaited orders
pub record IsWindow (tick : ℕ) (hs : List Held) (awaiting : List Awaited) (spare : ℕ) : Type 0 where
  pub held : AreHeld tick hs
  pub apart : AreApart hs
  pub room : length awaiting ≤ spare

-- the window as a value of the model
abbrev pub value_of : ℕ → List (Option Held) → List (Option Arrival) → List (Option Awaited) → Volatile
value_of tick slots pending awaiting =
    record { window = entries_at tick (somes slots); pending_acks = map pending_ack (somes pending); awaiting = map transmission (somes awaiting) }
