-- The counts of a run: how often each part failed, and with which faults each disk was armed.
use Rattle.std.specs.Prelude.{◌≡◌, ℕ, ◌+◌, ◌-◌, ◌^◌, ◌≤◌, min, List, length, slice_get, Some}
use Rattle.std.specs.Option.{option_map}
use Rattle.qkd_base.specs.declared.lane.Lane.{Lane}
use Rattle.disk_model.specs.declared.arm.Armings.{Armings}
use Rattle.net_model.specs.Site.{Site}
use Rattle.net_model.specs.Action.{Action, Fault}
use Rattle.net_model.specs.Faults.{disk_faults, entropy_faults, device_faults, wire_faults, armings}
use Rattle.world_nodes.specs.Passed.{Post}
use Rattle.lane_sender.specs.Lane.{LaneForm}
use Rattle.run_model.specs.Bench.{last_of_both}
use Rattle.run_ops.specs.Acting.{fault_of}
use Rattle.world_nodes.specs.Counts.{disk_of, entropy_of}
use Rattle.world_state.specs.Stands.{place_of}
use Rattle.world_state.specs.declared.state.State.{State}
use Rattle.disk_model.specs.declared.disk.Disk as Disk
use Rattle.source_devices.specs.declared.entropy.Entropy as Entropy
use Rattle.world_state.specs.Outside.{Outside}

-- A part failed n times: its count rose by at least n, or it is at its highest value, 2^64 - 1. Where the part didn't fail, the count stayed. So if the
-- faults come in some order, the count may have risen with each of them, and only with them.
pub record Counted (n before now : ℕ) : Type 0 where
  pub rose : min (before + n) (2 ^ 64 - 1) ≤ now
  pub calm : n ≡ 0 → now ≡ before

-- The disk was armed with exactly these faults, in this order.
pub record IsArmedBy (faults : List Fault) (before now : Armings) : Type 0 where
  pub times : now.count ≡ before.count + length faults
  pub last : option_map fault_of now.last ≡ last_of_both (option_map fault_of before.last) faults

-- the counts of a node's disk and of its entropy
pub record PostTallied {K E : Type 0} (disk_says : Disk.Ghosts K) (entropy_says : Entropy.Ghosts E) (site : Site) (v : ℕ) (actions : List Action) (old new : Post K E) : Type 0 where
  pub before : K
  pub now : K
  pub was : disk_of old ≡ Some before
  pub is : disk_of new ≡ Some now
  pub failed : Counted (disk_faults site v actions) (disk_says.faults before) (disk_says.faults now)
  pub armed_with : IsArmedBy (armings v actions) (disk_says.armings before) (disk_says.armings now)
  pub refused : Counted (entropy_faults v actions) (entropy_says.faults (entropy_of old)) (entropy_says.faults (entropy_of new))

-- the counts of all parts
pub record Tallied {K Q E X : Type 0} (outside : Outside K Q E X)
    (old new : State K Q E X) (site : Site) (actions : List Action) : Type 0 where
  pub nodes : length new.posts.items ≡ length old.posts.items
  pub posts : (v : ℕ) (p q : Post K E) → slice_get old.posts.items v ≡ Some p → slice_get new.posts.items v ≡ Some q →
      PostTallied outside.disk outside.entropy site v actions p q
  pub links : length new.devices.items ≡ length old.devices.items
  pub devices : (link : ℕ) (p q : Q) → slice_get old.devices.items link ≡ Some p → slice_get new.devices.items link ≡ Some q →
      Counted (device_faults link actions) (outside.device.faults p) (outside.device.faults q)
  pub sides : length new.lanes.items ≡ length old.lanes.items
  pub wires : (l : Lane) (p q : LaneForm X) → slice_get old.lanes.items (place_of l) ≡ Some p → slice_get new.lanes.items (place_of l) ≡ Some q →
      Counted (wire_faults l actions) (outside.wire.faults p.wire) (outside.wire.faults q.wire)
