-- The state that is laid out of a bench, and the bench to which it is put back.
use Rattle.std.specs.Prelude.{◌≡◌, ◌+◌, ◌-◌, ◌*◌, ◌^◌, ◌<◌, ◌≤◌, IsTrue, List, [], ◌∷◌, ◌++◌, length, map, take, drop, slice_get, vec_capacity, Some}
use Rattle.std.specs.List.{All}
use Rattle.std.specs.Option.{option_map}
use Rattle.qkd_base.specs.declared.lane.Lane.{Lane}
use Rattle.declared_site.specs.SiteOf.{site_of}
use Rattle.declared_site.specs.declared.site.Site.{Site as Declared}
use Rattle.journal_snapshot.specs.Standing.{IsKept}
use Rattle.lane_sender.specs.Lane.{LaneForm}
use Rattle.world_state.specs.Passed.{WhereUp, Post, On, Off, disk_of, entropy_of}
use Rattle.world_state.specs.Stands.{place_of}
use Rattle.world_state.specs.declared.state.State.{State}
use Rattle.net_world.specs.declared.bench.Bench.{Bench}
use Rattle.disk_model.specs.declared.disk.Disk as Disk

-- a bench has enough parts for every site: 16 nodes and 32 links
pub record IsWhole {K Q E X : Type 0} (b : Bench K Q E X) : Type 0 where
  pub disks : length b.disks.items ≡ 16
  pub entropies : length b.entropies.items ≡ 16
  pub devices : length b.devices.items ≡ 32
  pub wires : length b.wires.items ≡ 64

-- posts of nodes that were never started, each with its disk and its entropy
abbrev pub unstarted : {K E : Type 0} → List K → List E → List (Post K E)
unstarted [] es = []
unstarted (k ∷ ks) [] = []
unstarted (k ∷ ks) (e ∷ es) = Off k e ∷ unstarted ks es

-- a lane over this wire that has received no bytes
abbrev pub without_bytes : {X : Type 0} → Lane → X → LaneForm X
without_bytes l wire = record { lane = l; bytes = []; ledger = record { used = 0; end = 0; received = 0; burnt = 0 }; wire = wire }

-- Each node has its disk and its entropy, each lane its wire, and each link its device. All links are up. The parts of higher numbers stay on the bench.
pub record IsLaidOut {K Q E X : Type 0} (old new : Bench K Q E X) (site : Declared) (s : State K Q E X) : Type 0 where
  pub sited : s.site ≡ site
  pub posts : s.posts.items ≡ unstarted (take (site_of site).nodes old.disks.items) (take (site_of site).nodes old.entropies.items)
  pub sides : length s.lanes.items ≡ 2 * (site_of site).links
  pub lanes : (l : Lane) → l.link < (site_of site).links → slice_get s.lanes.items (place_of l) ≡ option_map (without_bytes l) (slice_get old.wires.items (place_of l))
  pub devices : s.devices.items ≡ take (site_of site).links old.devices.items
  pub up : s.up ≡ 2 ^ 32 - 1
  pub other_disks : new.disks.items ≡ drop (site_of site).nodes old.disks.items
  pub other_entropies : new.entropies.items ≡ drop (site_of site).nodes old.entropies.items
  pub other_wires : new.wires.items ≡ drop (2 * (site_of site).links) old.wires.items
  pub other_devices : new.devices.items ≡ drop (site_of site).links old.devices.items

-- the bench has room for the parts of the state
pub record HasRoomFor {K Q E X : Type 0} (b : Bench K Q E X) (s : State K Q E X) : Type 0 where
  pub disks : length s.posts.items + length b.disks.items ≤ vec_capacity b.disks
  pub entropies : length s.posts.items + length b.entropies.items ≤ vec_capacity b.entropies
  pub devices : length s.devices.items + length b.devices.items ≤ vec_capacity b.devices
  pub wires : length s.lanes.items + length b.wires.items ≤ vec_capacity b.wires

-- the batches of a manager that is up are what an honest disk holds, and a crash can leave no other image
abbrev pub IsOnDisk : {K E : Type 0} → Disk.Ghosts K → Post K E → Type 0
IsOnDisk disk_says (On m) =
    WhereUp (λ j. IsTrue (disk_says.is_honest j.disk) → IsKept j.live j.batches (disk_says.content j.disk) (disk_says.image j.disk (disk_says.moment j.disk))) m.standing
IsOnDisk disk_says (Off disk entropy) = Unit {0}

-- The bench has the state's parts, and then those that stayed.
pub record IsPutBack {K Q E X : Type 0} (disk_says : Disk.Ghosts K)
    (s : State K Q E X) (old new : Bench K Q E X) : Type 0 where
  pub disks : map Some new.disks.items ≡ map disk_of s.posts.items ++ map Some old.disks.items
  pub entropies : new.entropies.items ≡ map entropy_of s.posts.items ++ old.entropies.items
  pub devices : new.devices.items ≡ s.devices.items ++ old.devices.items
  pub wires : new.wires.items ≡ map (λ (side : LaneForm X). side.wire) s.lanes.items ++ old.wires.items
  pub on_disk : All (IsOnDisk disk_says) s.posts.items
