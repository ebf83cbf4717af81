-- Changes of the world after which a lane stands for the same lane as before.
use Rattle.std.specs.Prelude.{◌≡◌, ℕ, ◌≤◌, Bool, false, List, [], slice_get, Some, true, if◌then◌else◌}
use Rattle.qkd_base.specs.Name.{Name}
use Rattle.qkd_base.specs.Lane.{lane_eq}
use Rattle.qkd_base.specs.declared.lane.Lane.{Lane}
use Rattle.net_model.specs.declared.fact.Fact.{Fact}
use Rattle.net_model.specs.declared.record.Record.{Record}
use Rattle.net_model.specs.declared.record.Record.TheVariants.{Block}
use Rattle.net_model.specs.Table.{fact_at}
use Rattle.net_model.specs.Site.{Site, outgoing_lane, sender}
use Rattle.net_model.specs.World.{Network, World, Allocation}
use Rattle.net_model.specs.Records.{replay}
use Rattle.net_model.specs.Doubt.{MayReplay}
use Rattle.net_model.specs.Events.{is_lane}
use Rattle.net_model.specs.Start.{resolved}
use Rattle.lane_sender.specs.Lane.{LaneForm}
use Rattle.world_nodes.specs.LaneStands.{IsRunning, LaneStands}
use Rattle.source_devices.specs.declared.wire.Wire as Wire

-- The lane keeps its blocks, owners and wire. Its lease is no lower, and its frames and all facts stay.
pub record GoesOn (w w' : World) (l : Lane) : Type 0 where
  pub facts : (n : Name) (f : Fact) → fact_at w.durable.facts n ≡ Some f → fact_at w'.durable.facts n ≡ Some f
  pub blocks : w'.durable.blocks l ≡ w.durable.blocks l
  pub own : w'.durable.own l ≡ w.durable.own l
  pub lease : w.durable.lease l ≤ w'.durable.lease l
  pub frames : (j : ℕ) (a : Allocation) → slice_get (w.frames l) j ≡ Some a → slice_get (w'.frames l) j ≡ Some a
  pub wire : w'.wire l ≡ w.wire l

-- A node's batch was made durable, and no frame was claimed or put.
pub record IsReplayed (net : Network) (w w' : World) (v : ℕ) (batch : List Record) : Type 0 where
  pub may : MayReplay net.site w.durable v batch
  pub durable : w'.durable ≡ replay net.site v batch w.durable
  pub frames : w'.frames ≡ w.frames
  pub wire : w'.wire ≡ w.wire

-- The node's record brings this lane a block.
abbrev pub brings : Site → ℕ → Lane → Record → Bool
brings s v l (Block link number bytes) = lane_eq l (outgoing_lane s v link)
brings s v l _ = false

-- the batch that is made durable when a start resolves what was in doubt
abbrev pub made : World → ℕ → Bool → List Record
made w v committed = if committed then (w.in_doubt v).batch else []

-- A start resolves the batch in doubt: it is made durable or dropped. In the world after this, a lane that leaves the node stands as before the
-- start, and goes on at this world's lease.
pub record MayRestart {X : Type 0} (wire_says : Wire.Ghosts X) (net : Network) (w : World) (committed : Bool) (side : LaneForm X) (lease : ℕ) : Type 0 where
  pub running : IsRunning net w
  pub at : is_lane net.site side.lane ≡ true
  pub stands : LaneStands wire_says net (resolved net.site w (sender net.site side.lane) committed) side.lane side
  pub leased : lease ≡ (resolved net.site w (sender net.site side.lane) committed).durable.lease side.lane
