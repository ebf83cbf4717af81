-- Starting a node's manager. If it is up afterwards, each lane that leaves the node takes the blocks that it lacks, and goes on at the journal's
-- lease.
use Rattle.std.specs.Prelude.{◌≡◌, ℕ, ◌-◌, ◌*◌, ◌≤◌, ◌==◌, Bool, true, false, List, [], ◌∷◌, length, take, slice_get, Some, if◌then◌else◌}
use Rattle.qkd_base.specs.declared.lane.Lane.{Lane}
use Rattle.net_model.specs.Site.{Site, sender}
use Rattle.net_model.specs.World.{Network, World}
use Rattle.net_model.specs.View.{View, port_of, incoming_octets}
use Rattle.net_model.specs.Action.{Recovery, Start}
use Rattle.net_model.specs.Step.{step, IsStep}
use Rattle.pad_ledger.specs.Ledger.{Ledger, received_more}
use Rattle.run_types.specs.declared.start_result.StartResult.{StartResult}
use Rattle.run_types.specs.declared.start_result.StartResult.TheVariants as starts
use Rattle.run_ops.specs.Reported.{started}
use Rattle.world_nodes.specs.Passed.{lease_of, Post}
use Rattle.lane_sender.specs.Lane.{LaneForm, burnt_to}
use Rattle.world_nodes.specs.Stands.{PostStands}
use Rattle.world_state.specs.Tallied.{Tallied}
use Rattle.world_state.specs.declared.state.State.{State}
use Rattle.world_state.specs.Outside.{Outside}

abbrev pub is_started : StartResult → Bool
is_started starts.Started = true
is_started _ = false

-- All parts are as the start leaves them, except the lanes, which stay as they were.
pub record HasBegun {K Q E X : Type 0} (outside : Outside K Q E X)
    (old new : State K Q E X) (net : Network) (w : World) (v : ℕ) (result : StartResult) : Type 0 where
  pub recovery : Recovery
  pub may : IsStep net w (Start v recovery)
  pub said : (step net w (Start v recovery)).1 ≡ started result
  pub site : new.site ≡ old.site
  pub nodes : length new.posts.items ≡ length old.posts.items
  pub posts : (u : ℕ) (p : Post K E) → slice_get new.posts.items u ≡ Some p → PostStands outside.disk outside.entropy net (step net w (Start v recovery)).0 u p
  pub lanes : new.lanes.items ≡ old.lanes.items
  pub devices : new.devices.items ≡ old.devices.items
  pub up : new.up ≡ old.up
  pub tallied : Tallied outside old new net.site (Start v recovery ∷ [])

-- the bytes that a manager has of a lane that leaves its node

abbrev pub octets_in : View → Lane → List ℕ
octets_in view l = incoming_octets l (port_of view l.link)

abbrev pub lease_in : View → Lane → ℕ
lease_in view l = lease_of (port_of view l.link)

-- the ledger of a lane once it has received this many bytes in all
abbrev pub ledger_at : ℕ → Ledger → Ledger
ledger_at size l = if l.received == size then l else received_more l (size - l.received)

-- the lane with all of these bytes
abbrev pub refilled : {X : Type 0} → List ℕ → LaneForm X → LaneForm X
refilled octets side = record side { bytes = octets; ledger = ledger_at (length octets) side.ledger }

-- the lane with all of these bytes, once it goes on at this lease
abbrev pub gone_on : {X : Type 0} → List ℕ → ℕ → LaneForm X → LaneForm X
gone_on octets lease side = record side { bytes = octets; ledger = burnt_to lease (ledger_at (length octets) side.ledger) }

-- The lane's bytes are the first of these bytes, and both are whole blocks.
pub record MayRefill {X : Type 0} (octets : List ℕ) (side : LaneForm X) : Type 0 where
  pub held : ℕ
  pub size : length side.bytes ≡ 1024 * held
  pub first : side.bytes ≡ take (1024 * held) octets
  pub received : side.ledger.received ≡ length side.bytes
  pub blocks : ℕ
  pub whole : length octets ≡ 1024 * blocks
  pub within : held ≤ blocks
  pub few : blocks ≤ 512

-- The lane claimed nothing above the lease, and the lease is at most the number of received bytes.
pub record MayGoOn {X : Type 0} (octets : List ℕ) (lease : ℕ) (side : LaneForm X) : Type 0 where
  pub refill : MayRefill octets side
  pub later : (ledger_at (length octets) side.ledger).end ≤ lease
  pub received : lease ≤ length octets

-- Each lane that leaves the node may go on with what its manager has.

abbrev pub MayAllGoOn : {X : Type 0} → Site → ℕ → View → List (LaneForm X) → Type 0
MayAllGoOn {X} s v view sides = (place : ℕ) (side : LaneForm X) → slice_get sides place ≡ Some side → sender s side.lane ≡ v → MayGoOn (octets_in view side.lane) (lease_in view side.lane) side

abbrev pub gone_with : {X : Type 0} → Site → ℕ → View → LaneForm X → LaneForm X
gone_with s v view side = if sender s side.lane == v then gone_on (octets_in view side.lane) (lease_in view side.lane) side else side

pub record AllWentOn {X : Type 0} (s : Site) (v : ℕ) (view : View) (old new : List (LaneForm X)) : Type 0 where
  pub sides : length new ≡ length old
  pub each : (place : ℕ) (side : LaneForm X) → slice_get new place ≡ Some side → (before : LaneForm X) × (slice_get old place ≡ Some before) × (side ≡ gone_with s v view before)

-- Each lane keeps its wire.
pub record WiresKept {X : Type 0} (old new : List (LaneForm X)) : Type 0 where
  pub sides : length new ≡ length old
  pub each : (place : ℕ) (side : LaneForm X) → slice_get new place ≡ Some side → (before : LaneForm X) × (slice_get old place ≡ Some before) × (side.wire ≡ before.wire)
