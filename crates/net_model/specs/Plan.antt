-- A plan: which frames are sent again and which for the first time, in order, and which leases they need.
use Rattle.std.specs.Prelude.{ℕ, ◌+◌, ◌*◌, ◌-◌, ◌/◌, ◌&&◌, nat_lt, min, not, Bool, List, [], ◌∷◌, ◌++◌, map, filter, Option, Some, None, if◌then◌else◌}
use Rattle.std.specs.List.{list_any, flat_map}
use Rattle.qkd_base.specs.Lane.{lane_eq, reverse_lane}
use Rattle.qkd_base.specs.declared.lane.Lane.{Lane}
use Rattle.net_model.specs.declared.fact.Fact.{Fact}
use Rattle.net_model.specs.declared.payload.Payload.{Payload}
use Rattle.net_model.specs.declared.record.Record.{Record}
use Rattle.net_model.specs.declared.record.Record.TheVariants.{Lease}
use Rattle.net_model.specs.declared.order.Order.{Order}
use Rattle.net_model.specs.declared.short_of.ShortOf.{ShortOf}
use Rattle.net_model.specs.declared.reply.Reply.TheVariants.{Planned}
use Rattle.net_model.specs.Item.{DataItem, AckItem, payload, need, is_data_of}
use Rattle.net_model.specs.Site.{Site, receiver}
use Rattle.net_model.specs.World.{Transmission, needs}
use Rattle.net_model.specs.View.{View, Port, received_of}
use Rattle.net_model.specs.Decision.{Effect}
use Rattle.net_model.specs.Window.{age, sent_again, repeats_on, repeat_of, transmission_eq}
use Rattle.net_model.specs.Relay.{owed}

-- the acknowledgements that are pending for a lane, in the order in which their frames arrived
abbrev pub acks_on : View → Lane → List Transmission
acks_on v l =
    map (λ a. record { lane = l; item = AckItem a.name; received_offset = Some a.offset })
    (filter (λ a. lane_eq a.lane (reverse_lane l)) v.volatile.pending_acks)

-- the facts owed to a lane's other end that are not in the window, in the order in which they were learned
abbrev pub facts_on : Site → View → Lane → List Transmission
facts_on site v l =
    map (λ n. record { lane = l; item = DataItem n; received_offset = None })
    (filter (λ n. not (list_any (λ e. lane_eq e.transmission.lane l && is_data_of n e.transmission.item) v.volatile.window)) (owed v (receiver site l)))

-- the transmissions that a lane should send: acknowledgements first; those that still await their placing are left out
unfoldable pub wanted_on : Site → View → Lane → List Transmission
wanted_on site v l = filter (λ t. not (list_any (transmission_eq t) v.volatile.awaiting)) (acks_on v l ++ facts_on site v l)

-- the transmissions for which the received bytes suffice, up to the first for which they don't
abbrev pub that_fit : List Fact → ℕ → ℕ → List Transmission → List Transmission
that_fit facts received used [] = []
that_fit facts received used (t ∷ ts) = if nat_lt received (used + need facts t.item) then [] else t ∷ that_fit facts received (used + need facts t.item) ts

-- the first transmission for which the received bytes don't suffice
abbrev pub short_on : List Fact → Lane → ℕ → ℕ → List Transmission → List ShortOf
short_on facts l received used [] = []
short_on facts l received used (t ∷ ts) =
    if nat_lt received (used + need facts t.item) then record { lane = l; used = used; need = need facts t.item; received = received } ∷ []
    else short_on facts l received (used + need facts t.item) ts

unfoldable pub orders_on : Site → View → Port → List Transmission
orders_on site v p = that_fit v.facts (received_of p) p.planned (wanted_on site v p.lane)

-- the planned end of a lane after its orders
abbrev pub end_on : Site → View → Port → ℕ
end_on site v p = p.planned + needs v.facts (orders_on site v p)

abbrev pub lease_size : ℕ
lease_size = 4096

-- the least multiple of the lease size that is at least `end`, but at most the bytes received
abbrev pub raise : ℕ → ℕ → ℕ
raise end received = min received (lease_size * ((end + (lease_size - 1)) / lease_size))

-- a lease, if the planned end is past the leased one
abbrev pub leases_on : Site → View → Port → List Record
leases_on site v p = let end = end_on site v p in if nat_lt p.lease end then Lease p.lane (raise end (received_of p)) ∷ [] else []

-- an order as the reply has it, at the offset that the plan foresees

abbrev pub spelled_order : Transmission → ℕ → Option Payload → List Order
spelled_order t used None = []
spelled_order t used (Some p) = record { lane = t.lane; offset = used; ack_of = t.received_offset; payload = p } ∷ []

abbrev pub spelled_orders : List Fact → ℕ → List Transmission → List Order
spelled_orders facts used [] = []
spelled_orders facts used (t ∷ ts) = spelled_order t used (payload facts t.item) ++ spelled_orders facts (used + need facts t.item) ts

-- Every entry of a fact gets one tick older. Then each lane whose link is up has, in order of link: at most 16 due
-- entries, in order of offset; the new orders for which the received bytes suffice, and the first for which they don't;
-- and the lease that the orders need.
unfoldable pub plan : Site → (ℕ → Bool) → View → Effect
plan site up v =
    let ports = filter (λ (p : Port). up p.lane.link) v.ports in
    let window = map age v.volatile.window in
    let again = flat_map (λ (p : Port). repeats_on window p.lane) ports in
    let orders = flat_map (orders_on site v) ports in
    record {
      batch = flat_map (leases_on site v) ports;
      volatile = record (v.volatile) { window = map (sent_again again) window; awaiting = v.volatile.awaiting ++ orders };
      orders = orders;
      repeats = again;
      reply = Planned (flat_map (λ p. spelled_orders v.facts p.planned (orders_on site v p)) ports) (map repeat_of again)
          (flat_map (λ p. short_on v.facts p.lane (received_of p) p.planned (wanted_on site v p.lane)) ports);
    }
