-- What one life of a manager keeps. Each entry is a frame of one of the node's lanes, and each received frame has at
-- most one acknowledgement.
use Rattle.std.specs.Prelude.{◌≡◌, ℕ, ◌==◌, ◌&&◌, Bool, true, false, List, [], ◌∷◌, ◌++◌, map, filter_map, slice_get, take, Option, Some, None}
use Rattle.std.specs.List.{list_any}
use Rattle.qkd_base.specs.Name.{name_eq}
use Rattle.qkd_base.specs.Lane.{lane_eq, reverse_lane}
use Rattle.qkd_base.specs.declared.lane.Lane.{Lane}
use Rattle.net_model.specs.declared.placing.Placing.{Placing}
use Rattle.net_model.specs.Item.{item_of, item_name}
use Rattle.net_model.specs.Site.{sender, receiver}
use Rattle.net_model.specs.World.{Network, World, Transmission, Entry, PendingAck, Outgoing, Volatile}
use Rattle.net_model.specs.Window.{is_pending_of}
use Rattle.net_model.specs.Frames.{frame_octets}
use Rattle.net_model.specs.Events.{is_lane}
use Rattle.net_model.specs.Knowledge.{IsAdjacent}

-- the frame is on the wire under this number, if it has one
abbrev pub IsOnWire : List ℕ → ℕ → Option ℕ → Type 0
IsOnWire wire j None = Unit {0}
IsOnWire wire j (Some n) = slice_get wire n ≡ Some j

-- a transmission is an acknowledgement exactly if it has a received offset
abbrev pub IsShaped : Transmission → Type 0
IsShaped t = t.item ≡ item_of t.received_offset (item_name t.item)

-- an entry is a frame of a lane that leaves the node, with its octets and its number on the wire
pub record IsEntry (net : Network) (w : World) (v : ℕ) (e : Entry) : Type 0 where
  pub shaped : IsShaped e.transmission
  pub site : is_lane net.site e.transmission.lane ≡ true
  pub lane : sender net.site e.transmission.lane ≡ v
  pub number : ℕ
  pub frame : slice_get (w.frames e.transmission.lane) number ≡ Some (record { offset = e.offset; item = e.transmission.item })
  pub octets : e.frame ≡ frame_octets net w e.transmission.lane (Some (record { offset = e.offset; item = e.transmission.item }))
  pub wire : IsOnWire (w.wire e.transmission.lane) number e.number

-- a placing is that of a frame of a lane that leaves the node, with its octets and its number on the wire
pub record IsPlaced (net : Network) (w : World) (v : ℕ) (p : Placing) : Type 0 where
  pub site : is_lane net.site p.lane ≡ true
  pub lane : sender net.site p.lane ≡ v
  pub number : ℕ
  pub frame : slice_get (w.frames p.lane) number ≡ Some (record { offset = p.offset; item = item_of p.ack_of p.name })
  pub octets : take p.length p.frame.octets ≡ frame_octets net w p.lane (Some (record { offset = p.offset; item = item_of p.ack_of p.name }))
  pub wire : IsOnWire (w.wire p.lane) number p.number

-- the orders and the frames of a lane are transmissions on this lane
pub record IsPosted (l : Lane) (unclaimed : List Transmission) (outgoing : List Outgoing) : Type 0 where
  pub ordered : (n : ℕ) (t : Transmission) → slice_get unclaimed n ≡ Some t → (t.lane ≡ l) × IsShaped t
  pub put : (n : ℕ) (o : Outgoing) → slice_get outgoing n ≡ Some o → (o.transmission.lane ≡ l) × IsShaped o.transmission

-- a pending acknowledgement is of a fact that is known here and came on that lane
pub record IsPending (net : Network) (w : World) (v : ℕ) (a : PendingAck) : Type 0 where
  pub lane : receiver net.site a.lane ≡ v
  pub fact : IsAdjacent w.durable.facts w.durable.known v (sender net.site a.lane) v a.name

-- the list has this offset of this lane

abbrev pub has_place : List (Lane × ℕ) → Lane × ℕ → Bool
has_place ps q = list_any (λ p. lane_eq p.0 q.0 && (p.1 == q.1)) ps

abbrev pub PlacesDiffer : List (Lane × ℕ) → Type 0
PlacesDiffer [] = Unit {0}
PlacesDiffer (p ∷ ps) = (has_place ps p ≡ false) × PlacesDiffer ps

abbrev pub place_of : Entry → Lane × ℕ
place_of e = (e.transmission.lane, e.offset)

abbrev pub answered_at : Lane → Option ℕ → Option (Lane × ℕ)
answered_at l None = None
answered_at l (Some offset) = Some (reverse_lane l, offset)

-- the lanes and offsets of received frames whose acknowledgement was sent or is pending
abbrev pub answered : Volatile → List (Lane × ℕ)
answered vol =
    map (λ (a : PendingAck). (a.lane, a.offset)) vol.pending_acks ++
    filter_map (λ (e : Entry). answered_at e.transmission.lane e.transmission.received_offset) vol.window

-- the transmission is this pending acknowledgement
abbrev pub is_same_ack : Transmission → PendingAck → Bool
is_same_ack t a = is_pending_of t a && name_eq a.name (item_name t.item)

abbrev pub IsAwaitedAck : Volatile → Transmission → Option ℕ → Type 0
IsAwaitedAck vol t None = Unit {0}
IsAwaitedAck vol t (Some offset) = list_any (is_same_ack t) vol.pending_acks ≡ true

pub record IsVolatile (net : Network) (w : World) (v : ℕ) (vol : Volatile) : Type 0 where
  pub entries : (n : ℕ) (e : Entry) → slice_get vol.window n ≡ Some e → IsEntry net w v e
  pub places : PlacesDiffer (map place_of vol.window)
  pub pending : (n : ℕ) (a : PendingAck) → slice_get vol.pending_acks n ≡ Some a → IsPending net w v a
  pub once : PlacesDiffer (answered vol)
  pub awaiting : (n : ℕ) (t : Transmission) → slice_get vol.awaiting n ≡ Some t → (sender net.site t.lane ≡ v) × IsShaped t × IsAwaitedAck vol t t.received_offset
