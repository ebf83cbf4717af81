-- A bench that has been used before, and the lanes that its user had.
use Rattle.std.specs.Prelude.{◌≡◌, ℕ, ◌*◌, ◌-◌, ◌<◌, ◌≤◌, true, IsTrue, List, [], length, slice_get, Option, Some, None}
use Rattle.std.specs.List.{All, AllByRecursion, flat_map}
use Rattle.std.specs.Option.{option_map}
use Rattle.qkd_base.specs.declared.lane.Lane.{Lane}
use Rattle.qkd_base.specs.LaneBytes.{way_blocks}
use Rattle.net_model.specs.Events.{is_lane}
use Rattle.net_model.specs.OctetSequence.{first_blocks}
use Rattle.net_model.specs.Premises.{IsNetwork}
use Rattle.net_model.specs.World.{Network, World}
use Rattle.declared_site.specs.SiteOf.{site_of}
use Rattle.declared_site.specs.declared.site.Site.{Site as Declared}
use Rattle.disk_model.specs.Images.{Only}
use Rattle.hop_frames.specs.Sealing.{hop_sealing}
use Rattle.lane_sender.specs.Lane.{LaneForm}
use Rattle.world_state.specs.Passed.{DownStands, EntropyStands}
use Rattle.world_state.specs.Stands.{place_of}
use Rattle.world_state.specs.declared.state.State.{State}
use Rattle.net_world.specs.Laid.{IsWhole, IsLaidOut}
use Rattle.net_world.specs.declared.bench.Bench.{Bench}
use Rattle.net_world.specs.declared.kept_lane.KeptLane.{KeptLane}
use Rattle.world_state.specs.Outside.{Outside}

-- The bench stands for a network whose managers are all down. Each disk of a node is the node's, and each other disk is honest and empty. Entropies tell the
-- octets that were not drawn yet, devices tell all of theirs, and no wire has taken a frame.
pub record IsKept {K Q E X : Type 0} (outside : Outside K Q E X) (b : Bench K Q E X) (site : Declared) (net : Network) (w : World) : Type 0 where
  pub network : IsNetwork net
  pub sited : net.site ≡ site_of site
  pub sealing : net.sealing ≡ hop_sealing
  pub whole : IsWhole b
  pub disks : (v : ℕ) (k : K) → v < net.site.nodes → slice_get b.disks.items v ≡ Some k → DownStands outside.disk net w v k
  pub other_disks : (v : ℕ) (k : K) → net.site.nodes ≤ v → slice_get b.disks.items v ≡ Some k → IsTrue (outside.disk.is_honest k) × Only [] (outside.disk.image k (outside.disk.moment k))
  pub entropies : (v : ℕ) (e : E) → slice_get b.entropies.items v ≡ Some e → EntropyStands outside.entropy net w v e
  pub devices : (link : ℕ) (q : Q) → slice_get b.devices.items link ≡ Some q → outside.device.told q ≡ Some (net.device link)
  pub wires : All (λ x. outside.wire.frames x ≡ Some []) b.wires.items

-- ---- the lanes

-- the blocks that a lane received, and the end up to which its bytes were leased; nothing came to a lane without an entry
abbrev pub blocks_of : Option KeptLane → List (List ℕ)
blocks_of None = []
blocks_of (Some k) = k.blocks.items

abbrev pub leased : Option KeptLane → ℕ
leased None = 0
leased (Some k) = k.lease

-- A lane has at most 512 blocks. Its lease ends within them, and behind the hash key as soon as there is one.
pub record MayGoOn (k : KeptLane) : Type 0 where
  pub whole : AllByRecursion (λ b. length b ≡ 1024) k.blocks.items
  pub few : length k.blocks.items ≤ 512
  pub leased : k.lease ≤ 1024 * length k.blocks.items
  pub key : 0 < length k.blocks.items → 8 ≤ k.lease

-- A lane that goes on at its leased end. Of the bytes below it the first 8 are the hash key, and the others are burnt.
abbrev pub going_on : {X : Type 0} → Lane → Option KeptLane → X → LaneForm X
going_on l kept wire =
    record {
      lane = l;
      bytes = flat_map (λ b. b) (blocks_of kept);
      ledger = record { used = leased kept; end = leased kept; received = 1024 * length (blocks_of kept); burnt = leased kept - 8 };
      wire = wire;
    }

-- the lane that went on at a place
pub record WentOn {X : Type 0} (kept : List KeptLane) (old : List (LaneForm X)) (place : ℕ) (side : LaneForm X) : Type 0 where
  pub before : LaneForm X
  pub at : slice_get old place ≡ Some before
  pub is : side ≡ going_on before.lane (slice_get kept place) before.wire

-- the lane received these blocks in the network, and had this lease
pub record IsKeptLane (net : Network) (w : World) (l : Lane) (kept : Option KeptLane) : Type 0 where
  pub blocks : blocks_of kept ≡ way_blocks l.way (first_blocks (net.device l.link) (w.durable.blocks l))
  pub lease : leased kept ≡ w.durable.lease l

-- an entry for each lane, link by link, the lane up before the lane down
abbrev pub AreKeptLanes : Network → World → List KeptLane → Type 0
AreKeptLanes net w kept = (l : Lane) → is_lane net.site l ≡ true → IsKeptLane net w l (slice_get kept (place_of l))

-- The state that is laid out of the bench, but each lane goes on with what is kept of it.
pub record IsLaidAgain {K Q E X : Type 0} (old stayed : Bench K Q E X) (site : Declared) (kept : List KeptLane) (s : State K Q E X) : Type 0 where
  pub fresh : State K Q E X
  pub laid : IsLaidOut old stayed site fresh
  pub sited : s.site ≡ fresh.site
  pub posts : s.posts.items ≡ fresh.posts.items
  pub devices : s.devices.items ≡ fresh.devices.items
  pub up : s.up ≡ fresh.up
  pub sides : length s.lanes.items ≡ length fresh.lanes.items
  pub lanes : (l : Lane) → l.link < (site_of site).links → slice_get s.lanes.items (place_of l) ≡ option_map (going_on l (slice_get kept (place_of l))) (slice_get old.wires.items (place_of l))
