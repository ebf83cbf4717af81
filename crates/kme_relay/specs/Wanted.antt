-- What is sent on a lane for the first time.
use Rattle.std.specs.Prelude.{ℕ, ◌&&◌, not, Bool, List, map, filter, drop, Some, None}
use Rattle.std.specs.List.{list_any}
use Rattle.qkd_base.specs.Name.{Name}
use Rattle.qkd_base.specs.Lane.{lane_eq, reverse_lane}
use Rattle.qkd_base.specs.declared.lane.Lane.{Lane}
use Rattle.net_model.specs.Table.{name_of}
use Rattle.net_model.specs.Item.{DataItem, AckItem, is_data_of}
use Rattle.net_model.specs.World.{PendingAck, Transmission, Volatile}
use Rattle.net_model.specs.Window.{transmission_eq}
use Rattle.relay_core.specs.Index.{is_owed_to}
use Rattle.relay_core.specs.Knowledge.{Knowledge}
use Rattle.resend_window.specs.Kept.{Kept, pending_from}

-- an acknowledgement, and a fact, as they are sent on a lane

abbrev pub ack_on : Lane → PendingAck → Transmission
ack_on l a = record { lane = l; item = AckItem a.name; received_offset = Some a.offset }

abbrev pub data_on : Lane → Name → Transmission
data_on l n = record { lane = l; item = DataItem n; received_offset = None }

abbrev pub is_awaited : Volatile → Transmission → Bool
is_awaited vol t = list_any (transmission_eq t) vol.awaiting

abbrev pub is_held : Volatile → Lane → Name → Bool
is_held vol l n = list_any (λ e. lane_eq e.transmission.lane l && is_data_of n e.transmission.item) vol.window

-- those of these transmissions that don't await their placings yet
abbrev pub not_awaited : Volatile → List Transmission → List Transmission
not_awaited vol ts = filter (λ t. not (is_awaited vol t)) ts

-- the acknowledgements that a lane must carry
abbrev pub acks_wanted : Volatile → Lane → List Transmission
acks_wanted vol l = not_awaited vol (map (ack_on l) (filter (λ a. lane_eq a.lane (reverse_lane l)) vol.pending_acks))

-- the acknowledgements that a lane must carry, from a place on
abbrev pub acks_from : Kept → Lane → ℕ → List Transmission
acks_from w l from = not_awaited w.volatile (map (ack_on l) (pending_from w (reverse_lane l) from))

-- the names of the facts that are owed to a neighbour, from a place on
abbrev pub names_owed : Knowledge → ℕ → ℕ → List Name
names_owed k to from = map name_of (filter (is_owed_to k.me k.acked to) (drop from k.facts))

abbrev pub facts_from : Knowledge → Volatile → Lane → ℕ → ℕ → List Transmission
facts_from k vol l to from = not_awaited vol (map (data_on l) (filter (λ n. not (is_held vol l n)) (names_owed k to from)))
