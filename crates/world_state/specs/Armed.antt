-- The highest count of armings of a disk in a state.
use Rattle.std.specs.Prelude.{ℕ, max, List, [], ◌∷◌, Option, Some, None}
use Rattle.world_nodes.specs.Passed.{Post}
use Rattle.world_nodes.specs.Counts.{disk_of}
use Rattle.disk_model.specs.declared.disk.Disk as Disk

abbrev pub times_of : {K : Type 0} → Disk.Ghosts K → Option K → ℕ
times_of disk_says None = 0
times_of disk_says (Some disk) = (disk_says.armings disk).count

abbrev pub most_armed : {K E : Type 0} → Disk.Ghosts K → List (Post K E) → ℕ
most_armed disk_says [] = 0
most_armed disk_says (p ∷ ps) = max (times_of disk_says (disk_of p)) (most_armed disk_says ps)
