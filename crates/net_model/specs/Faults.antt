-- What a run says of the outside: how often each part of it failed, and how disks were armed.
use Rattle.std.specs.Prelude.{ℕ, ◌==◌, ◌&&◌, Bool, true, false, List, count_by, filter_map, Option, Some, None, if◌then◌else◌}
use Rattle.qkd_base.specs.Lane.{lane_eq}
use Rattle.qkd_base.specs.declared.lane.Lane.{Lane}
use Rattle.net_model.specs.Site.{Site, receiver}
use Rattle.net_model.specs.Action.{Action, Start, Arm, TakeBlock, Ask, Transmit, Deliver, Flip, Forge, Recovery, Interrupted, Fault, is_entropy_fault, is_io_fault, is_device_fault}

abbrev pub is_interrupted : Recovery → Bool
is_interrupted (Interrupted checkpointed) = true
is_interrupted _ = false

-- the disk of this node failed in the action
abbrev pub is_disk_fault : Site → ℕ → Action → Bool
is_disk_fault s v (Start u recovery) = (u == v) && is_interrupted recovery
is_disk_fault s v (TakeBlock u link environment) = (u == v) && is_io_fault environment
is_disk_fault s v (Ask u event environment) = (u == v) && is_io_fault environment
is_disk_fault s v (Deliver l number environment) = (receiver s l == v) && is_io_fault environment
is_disk_fault s v (Flip l number bit environment) = (receiver s l == v) && is_io_fault environment
is_disk_fault s v (Forge l octets environment) = (receiver s l == v) && is_io_fault environment
is_disk_fault s v _ = false

abbrev pub is_random_fault : ℕ → Action → Bool
is_random_fault v (Ask u event environment) = (u == v) && is_entropy_fault environment
is_random_fault v _ = false

abbrev pub is_block_fault : ℕ → Action → Bool
is_block_fault link (TakeBlock u k environment) = (k == link) && is_device_fault environment
is_block_fault link _ = false

abbrev pub is_wire_fault : Lane → Action → Bool
is_wire_fault l (Transmit k frame environment) = lane_eq k l && is_io_fault environment
is_wire_fault l _ = false

-- How many faults of a kind are in a run. The object's own count of faults rose at least as often.
unfoldable pub disk_faults : Site → ℕ → List Action → ℕ
disk_faults s v actions = count_by (is_disk_fault s v) actions

unfoldable pub entropy_faults : ℕ → List Action → ℕ
entropy_faults v actions = count_by (is_random_fault v) actions

unfoldable pub device_faults : ℕ → List Action → ℕ
device_faults link actions = count_by (is_block_fault link) actions

unfoldable pub wire_faults : Lane → List Action → ℕ
wire_faults l actions = count_by (is_wire_fault l) actions

abbrev pub fault_armed : ℕ → Action → Option Fault
fault_armed v (Arm u fault) = if u == v then Some fault else None
fault_armed v _ = None

-- the faults with which a node's disk was armed, in order
unfoldable pub armings : ℕ → List Action → List Fault
armings v actions = filter_map (fault_armed v) actions
