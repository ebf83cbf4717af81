-- A lane takes the blocks of its way.
use Rattle.std.specs.Prelude.{◌≡◌, ℕ, ◌<◌, ◌%◌, ◌==◌, Bool, true, List, [], ◌∷◌}
use Rattle.qkd_base.specs.declared.lane.Way.{Way}
use Rattle.qkd_base.specs.declared.lane.Way.TheVariants.{Up, Down}
use Rattle.qkd_base.specs.declared.lane.Lane.{Lane}
use Rattle.net_model.specs.declared.record.Record.TheVariants.{Block}
use Rattle.net_model.specs.Site.{sender}
use Rattle.net_model.specs.OctetSequence.{block_at}
use Rattle.net_model.specs.World.{Network, World}
use Rattle.net_model.specs.declared.reply.Reply.TheVariants as reply
use Rattle.net_model.specs.Action.{Outcome, Replies}
use Rattle.net_model.specs.Handle.{blocks_at}
use Rattle.net_model.specs.Events.{is_lane}
use Rattle.lane_sender.specs.Lane.{LaneForm}
use Rattle.world_nodes.specs.LaneStands.{IsRunning, LaneStands}
use Rattle.world_nodes.specs.Going.{IsReplayed}
use Rattle.source_devices.specs.declared.wire.Wire as Wire

-- The lane up takes a link's blocks with even numbers, the lane down those with odd numbers.
abbrev pub is_of_way : Way → ℕ → Bool
is_of_way Up number = number % 2 == 0
is_of_way Down number = number % 2 == 1

-- The block is the next one that the lane's sender takes from the device.
pub record MayTake {X : Type 0} (wire_says : Wire.Ghosts X) (net : Network) (w : World) (side : LaneForm X) (number : ℕ) (block : List ℕ) : Type 0 where
  pub running : IsRunning net w
  pub stands : LaneStands wire_says net w side.lane side
  pub at : is_lane net.site side.lane ≡ true
  pub next : number ≡ w.durable.blocks side.lane
  pub few : number < 1024
  pub bytes : block ≡ block_at (net.device side.lane.link) number

-- The lane's sender makes the block durable.
abbrev pub TakesBlock : Network → World → World → Lane → ℕ → List ℕ → Type 0
TakesBlock net w w' l number block = IsReplayed net w w' (sender net.site l) (Block l.link number block ∷ [])

-- A node takes the next block of a device. If it answers that it took the block, the block is durable. If it answers anything else, no lane changes.
pub record TakesOrStays (net : Network) (w : World) (v link : ℕ) (r : World × Outcome) : Type 0 where
  pub took : (number : ℕ) → r.1 ≡ Replies (reply.Took number) → (number ≡ blocks_at net w v link) × (number < 1024)
      × IsReplayed net w r.0 v (Block link number (block_at (net.device link) number) ∷ [])
  pub otherwise : ((number : ℕ) → r.1 ≡ Replies (reply.Took number) → ⊥) → (r.0.durable ≡ w.durable) × (r.0.frames ≡ w.frames) × (r.0.wire ≡ w.wire)
