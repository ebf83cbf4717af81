-- The frames of a reply, and the lanes on which they can be sent.
use Rattle.std.specs.Prelude.{◌≡◌, ℕ, ◌≤◌, true, List, []}
use Rattle.net_model.specs.declared.order.Order.{Order}
use Rattle.net_model.specs.declared.reply.Reply.{Reply}
use Rattle.net_model.specs.declared.reply.Reply.TheVariants.{Planned}
use Rattle.net_model.specs.Facts.{IsWellFormed}
use Rattle.net_model.specs.Site.{Site, sender}
use Rattle.net_model.specs.Events.{is_lane}
use Rattle.net_model.specs.Tick.{Emission, Again, New}

-- the new orders of a plan; none of any other reply
abbrev pub orders_replied : Reply → List Order
orders_replied (Planned orders repeats shorts) = orders
orders_replied _ = []

-- The frame can be sent on a lane that leaves the node: an order's payload is well formed, and a repeat has at most 600 octets.
abbrev pub CanLeave : Site → (v : ℕ) → Emission → Type 0
CanLeave s v (Again r) = (is_lane s r.lane ≡ true) × (sender s r.lane ≡ v) × (r.length ≤ 600)
CanLeave s v (New o) = (is_lane s o.lane ≡ true) × (sender s o.lane ≡ v) × IsWellFormed o.payload
