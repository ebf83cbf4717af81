-- A manager's ends of its links, their invariant, and what is planned on them.
use Rattle.std.specs.Prelude.{◌≡◌, ℕ, ◌+◌, ◌<◌, ◌≤◌, ◌&&◌, nat_le, true, List, [], ◌∷◌, length, map, if◌then◌else◌}
use Rattle.std.specs.List.{AllByRecursion}
use Rattle.qkd_base.specs.Lane.{lane_eq}
use Rattle.qkd_base.specs.declared.lane.Lane.{Lane}
use Rattle.net_model.specs.declared.fact.Fact.{Fact}
use Rattle.net_model.specs.declared.order.Order.{Order}
use Rattle.net_model.specs.Facts.{payload_len}
use Rattle.net_model.specs.Item.{need}
use Rattle.net_model.specs.View.{Port, received_of}
use Rattle.kme_base.specs.Steps.{item_of_payload}

-- one end of a link, and for how many more blocks it has room
pub record Place : Type 0 where
  pub port : Port
  pub spare : ℕ

-- the ends in order of link, and for how many more blocks each has room
pub record LinkEnds : Type 0 where
  pub ports : List Port
  pub spares : List ℕ

-- An end has at most 1,024 blocks. Its lease and its plan lie within the bytes received, and the lease is at least that of the
-- last start.
pub record IsEnd (p : Port) : Type 0 where
  pub blocks : length p.blocks ≤ 1024
  pub lease : p.lease ≤ received_of p
  pub planned : p.planned ≤ received_of p
  pub recovered : p.recovered ≤ p.lease

abbrev pub AreEnds : List Port → Type 0
AreEnds ports = AllByRecursion IsEnd ports

abbrev pub ports_in : List Place → List Port
ports_in places = map (λ (x : Place). x.port) places

abbrev pub spares_in : List Place → List ℕ
spares_in places = map (λ (x : Place). x.spare) places

abbrev pub with_port : (Port → Port) → Place → Place
with_port f x = record x { port = f x.port }

-- each end of this link has room for one more block
abbrev pub HasRoomFor : List Port → List ℕ → ℕ → Type 0
HasRoomFor [] spares link = Unit {0}
HasRoomFor (p ∷ ps) [] link = Unit {0}
HasRoomFor (p ∷ ps) (n ∷ ns) link = (p.lane.link ≡ link → 0 < n) × HasRoomFor ps ns link

abbrev pub HasRoom : LinkEnds → ℕ → Type 0
HasRoom ends link = HasRoomFor ends.ports ends.spares link

abbrev pub HasRoomIn : List Place → ℕ → Type 0
HasRoomIn places link = HasRoomFor (ports_in places) (spares_in places) link

-- At a start the lane goes on at the end of its leased bytes.
abbrev pub restarted : Port → Port
restarted p = record p { planned = p.lease; recovered = p.lease }

-- Planning.

-- more bytes of a lane are planned
abbrev pub with_planned : ℕ → Port → Port
with_planned n p = record p { planned = p.planned + n }

abbrev pub planned_on : Lane → ℕ → Port → Port
planned_on l n p = if lane_eq p.lane l then with_planned n p else p

-- More bytes of a lane are planned if that many were received and are not planned yet.
abbrev pub planned_within : Lane → ℕ → Port → Port
planned_within l n p = if lane_eq p.lane l && nat_le (p.planned + n) (received_of p) then with_planned n p else p

-- That many bytes of a lane were received and are not planned yet.
abbrev pub HasBytes : Lane → ℕ → List Port → Type 0
HasBytes l n ports = AllByRecursion (λ (p : Port). lane_eq p.lane l ≡ true → p.planned + n ≤ received_of p) ports

-- the lane bytes that an order spends
abbrev pub order_need : Order → ℕ
order_need o = payload_len o.payload + 8

-- the bytes that orders spend of a lane
abbrev pub lane_need : Lane → List Order → ℕ
lane_need l [] = 0
lane_need l (o ∷ os) = (if lane_eq o.lane l then order_need o else 0) + lane_need l os

-- The bytes that orders spend of the outgoing lane are planned if that many were received and are not planned yet.
abbrev pub need_within : List Order → Port → Port
need_within orders p = if nat_le (p.planned + lane_need p.lane orders) (received_of p) then with_planned (lane_need p.lane orders) p else p

-- The bytes that the orders spend of each lane were received and are not planned yet.
abbrev pub HasBytesFor : List Order → List Port → Type 0
HasBytesFor orders ports = AllByRecursion (λ (p : Port). p.planned + lane_need p.lane orders ≤ received_of p) ports

-- For each order, the bytes that it needs by these facts are the bytes that it spends.
abbrev pub AreOf : List Fact → List Order → Type 0
AreOf facts orders = AllByRecursion (λ (o : Order). need facts (item_of_payload o.payload) ≡ order_need o) orders
