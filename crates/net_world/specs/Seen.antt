-- What is seen of a bench after its parts were put back.
use Rattle.std.specs.Prelude.{◌≡◌, ℕ, ◌-◌, ◌^◌, min, List, [], slice_get, Option, Some, None}
use Rattle.std.specs.Option.{option_map}
use Rattle.qkd_base.specs.declared.lane.Lane.{Lane}
use Rattle.disk_model.specs.declared.arm.Armings.{Armings}
use Rattle.run_model.specs.Bench.{Count, Arming, Seen}
use Rattle.run_ops.specs.Acting.{fault_of}
use Rattle.law_run.specs.Benched.{counter}
use Rattle.world_state.specs.Stands.{place_of}
use Rattle.net_world.specs.New.{AreKnown}
use Rattle.net_world.specs.declared.bench.Bench.{Bench}
use Rattle.disk_model.specs.declared.disk.Disk as Disk
use Rattle.source_devices.specs.declared.wire.Wire as Wire
use Rattle.world_state.specs.Outside.{Outside}

-- a count of faults as a 64-bit counter shows it; a number without a part shows 0
abbrev pub shown : {T : Type 0} → (T → ℕ) → Option T → ℕ
shown faults None = 0
shown faults (Some part) = min (faults part) (2 ^ 64 - 1)

abbrev pub counted_in : {T : Type 0} → (T → ℕ) → (old new : List T) → ℕ → Count
counted_in faults old new n = counter (shown faults (slice_get old n)) (shown faults (slice_get new n))

-- how a disk was armed between two moments; a missing disk never was

abbrev pub armings_of : {K : Type 0} → Disk.Ghosts K → Option K → Armings
armings_of disk_says None = record { count = 0; last = None }
armings_of disk_says (Some disk) = disk_says.armings disk

abbrev pub armed_between : (old new : Armings) → Arming
armed_between old new = record { times = new.count - old.count; old = option_map fault_of old.last; new = option_map fault_of new.last }

-- the frames of a wire; a missing wire has none
abbrev pub frames_on : {X : Type 0} → Wire.Ghosts X → Option X → Option (List (List ℕ))
frames_on wire_says None = Some []
frames_on wire_says (Some wire) = wire_says.frames wire

-- octets that a crash may leave of a disk; a missing disk is empty
abbrev pub MayLeave : {K : Type 0} → Disk.Ghosts K → Option K → List ℕ → Type 0
MayLeave disk_says None octets = octets ≡ []
MayLeave disk_says (Some disk) octets = disk_says.image disk (disk_says.moment disk) octets

-- the counts of faults, the armings, the frames of the wires, an image of each disk, and what entropies have left
pub record IsSeenOn {K Q E X : Type 0} (outside : Outside K Q E X) (old new : Bench K Q E X) (seen : Seen) : Type 0 where
  pub disk_counts : (v : ℕ) → seen.disk_count v ≡ counted_in outside.disk.faults old.disks.items new.disks.items v
  pub entropy_counts : (v : ℕ) → seen.entropy_count v ≡ counted_in outside.entropy.faults old.entropies.items new.entropies.items v
  pub device_counts : (link : ℕ) → seen.device_count link ≡ counted_in outside.device.faults old.devices.items new.devices.items link
  pub wire_counts : (l : Lane) → seen.wire_count l ≡ counted_in outside.wire.faults old.wires.items new.wires.items (place_of l)
  pub armings : (v : ℕ) → seen.arming v ≡ armed_between (armings_of outside.disk (slice_get old.disks.items v)) (armings_of outside.disk (slice_get new.disks.items v))
  pub wires : (l : Lane) → seen.wire l ≡ frames_on outside.wire (slice_get new.wires.items (place_of l))
  pub disks : (v : ℕ) → MayLeave outside.disk (slice_get new.disks.items v) (seen.disk v)
  pub entropies : AreKnown outside.entropy.left new.entropies.items seen.entropy
