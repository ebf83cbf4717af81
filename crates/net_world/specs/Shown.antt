-- What is seen of a bench with honest disks.
use Rattle.std.specs.Prelude.{ℕ, List, [], slice_get, Option, Some, None}
use Rattle.run_model.specs.Bench.{Seen}
use Rattle.world_state.specs.Stands.{place_of}
use Rattle.net_world.specs.Seen.{counted_in, armings_of, armed_between, frames_on}
use Rattle.net_world.specs.declared.bench.Bench.{Bench}
use Rattle.disk_model.specs.declared.disk.Disk as Disk
use Rattle.world_state.specs.Outside.{Outside}

abbrev pub content_on : {K : Type 0} → Disk.Ghosts K → Option K → List ℕ
content_on disk_says None = []
content_on disk_says (Some disk) = disk_says.content disk

-- what a bench's parts show, with the content of each disk as its image
abbrev pub shown_by : {K Q E X : Type 0} → Outside K Q E X → (old new : Bench K Q E X) → Seen
shown_by outside old new =
    record {
      disk_count = λ v. counted_in outside.disk.faults old.disks.items new.disks.items v;
      entropy_count = λ v. counted_in outside.entropy.faults old.entropies.items new.entropies.items v;
      device_count = λ link. counted_in outside.device.faults old.devices.items new.devices.items link;
      wire_count = λ l. counted_in outside.wire.faults old.wires.items new.wires.items (place_of l);
      arming = λ v. armed_between (armings_of outside.disk (slice_get old.disks.items v)) (armings_of outside.disk (slice_get new.disks.items v));
      wire = λ l. frames_on outside.wire (slice_get new.wires.items (place_of l));
      disk = λ v. content_on outside.disk (slice_get new.disks.items v);
      entropy = λ v. None;
    }
