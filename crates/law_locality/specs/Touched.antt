-- The parts of the world that an action changes, and what stays at a node and at a lane.
use Rattle.std.specs.Prelude.{◌≡◌, ℕ, ◌==◌, ◌&&◌, Bool, true, false}
use Rattle.qkd_base.specs.Lane.{lane_eq}
use Rattle.qkd_base.specs.declared.lane.Lane.{Lane}
use Rattle.net_model.specs.Site.{Site, sender, receiver, outgoing_lane}
use Rattle.net_model.specs.World.{Network, World}
use Rattle.net_model.specs.Needed.{view_of}
use Rattle.net_model.specs.Action.{Action, Start, Crash, Arm, SetLink, TakeBlock, Ask, Allocate, Transmit, Complete, Deliver, Flip, Forge}
use Rattle.law_invariant.specs.May.{is_plan}

-- The manager that the action changes. Putting a frame changes its lane's sender, which has to be told of it. A claim
-- changes no manager, and arming a disk changes no world.
abbrev pub touches_node : Site → Action → ℕ → Bool
touches_node s (Start v recovery) u = v == u
touches_node s (Crash v) u = v == u
touches_node s (Arm v fault) u = false
touches_node s (SetLink link up) u = false
touches_node s (TakeBlock v link environment) u = v == u
touches_node s (Ask v event environment) u = v == u
touches_node s (Allocate t) u = false
touches_node s (Transmit l j environment) u = sender s l == u
touches_node s (Complete v) u = v == u
touches_node s (Deliver l number environment) u = receiver s l == u
touches_node s (Flip l number bit environment) u = receiver s l == u
touches_node s (Forge l octets environment) u = receiver s l == u

-- The lanes that the action changes: one lane, or at a start and at a plan all lanes that leave the node. A frame
-- that comes changes no lane.
abbrev pub touches_lane : Site → Action → Lane → Bool
touches_lane s (Start v recovery) l = sender s l == v
touches_lane s (Crash v) l = false
touches_lane s (Arm v fault) l = false
touches_lane s (SetLink link up) l = false
touches_lane s (TakeBlock v link environment) l = lane_eq l (outgoing_lane s v link)
touches_lane s (Ask v event environment) l = is_plan event && (sender s l == v)
touches_lane s (Allocate t) l = lane_eq l t.lane
touches_lane s (Transmit k j environment) l = lane_eq l k
touches_lane s (Complete v) l = false
touches_lane s (Deliver k number environment) l = false
touches_lane s (Flip k number bit environment) l = false
touches_lane s (Forge k octets environment) l = false

-- The link that the action sets up or down.
abbrev pub touches_link : Action → ℕ → Bool
touches_link (SetLink link up) k = link == k
touches_link _ k = false

-- The parts of the world's state of a lane.
pub data LanePart : Type 0 where
  Blocks : LanePart
  Own : LanePart
  Lease : LanePart
  Recovered : LanePart
  Frames : LanePart
  Wire : LanePart
  Unclaimed : LanePart
  Outgoing : LanePart

-- The parts of a lane that the action changes.
abbrev pub changes_part : LanePart → Action → Bool
changes_part Blocks (Start v recovery) = true
changes_part Blocks (TakeBlock v link environment) = true
changes_part Blocks _ = false
changes_part Own (Start v recovery) = true
changes_part Own (TakeBlock v link environment) = true
changes_part Own (Allocate t) = true
changes_part Own _ = false
changes_part Lease (Start v recovery) = true
changes_part Lease (TakeBlock v link environment) = true
changes_part Lease (Ask v event environment) = is_plan event
changes_part Lease _ = false
changes_part Recovered (Start v recovery) = true
changes_part Recovered _ = false
changes_part Frames (Allocate t) = true
changes_part Frames _ = false
changes_part Wire (Transmit k j environment) = true
changes_part Wire _ = false
changes_part Unclaimed (Ask v event environment) = is_plan event
changes_part Unclaimed (Allocate t) = true
changes_part Unclaimed _ = false
changes_part Outgoing (Ask v event environment) = is_plan event
changes_part Outgoing (Allocate t) = true
changes_part Outgoing (Transmit k j environment) = true
changes_part Outgoing _ = false

abbrev pub PartStays : LanePart → Lane → World → World → Type 0
PartStays Blocks l w after = after.durable.blocks l ≡ w.durable.blocks l
PartStays Own l w after = after.durable.own l ≡ w.durable.own l
PartStays Lease l w after = after.durable.lease l ≡ w.durable.lease l
PartStays Recovered l w after = after.recovered l ≡ w.recovered l
PartStays Frames l w after = after.frames l ≡ w.frames l
PartStays Wire l w after = after.wire l ≡ w.wire l
PartStays Unclaimed l w after = after.unclaimed l ≡ w.unclaimed l
PartStays Outgoing l w after = after.outgoing l ≡ w.outgoing l

-- The manager of node u stays as it was: its view and the rest of its state, apart from the notes that wait for it.
pub record ManagerStays (net : Network) (u : ℕ) (w after : World) : Type 0 where
  pub view : view_of net after u ≡ view_of net w u
  pub up : after.up u ≡ w.up u
  pub drawn : after.drawn u ≡ w.drawn u
  pub journal : after.journal u ≡ w.journal u
  pub interrupted : after.interrupted u ≡ w.interrupted u
  pub in_doubt : after.in_doubt u ≡ w.in_doubt u
  pub volatile : after.volatile u ≡ w.volatile u

-- The notes that wait for the manager stay too.
pub record StaysAt (net : Network) (u : ℕ) (w after : World) : Type 0 where
  pub manager : ManagerStays net u w after
  pub placings : after.placings u ≡ w.placings u

-- The lane stays as it was in all its parts. The blocks at its receiver's end belong to the reverse lane.
pub record LaneStays (l : Lane) (w after : World) : Type 0 where
  pub blocks : after.durable.blocks l ≡ w.durable.blocks l
  pub own : after.durable.own l ≡ w.durable.own l
  pub lease : after.durable.lease l ≡ w.durable.lease l
  pub recovered : after.recovered l ≡ w.recovered l
  pub frames : after.frames l ≡ w.frames l
  pub wire : after.wire l ≡ w.wire l
  pub unclaimed : after.unclaimed l ≡ w.unclaimed l
  pub outgoing : after.outgoing l ≡ w.outgoing l
