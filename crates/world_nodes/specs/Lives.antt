-- A node's life ends, and its disk is armed, as actions of the network.
use Rattle.std.specs.Prelude.{◌≡◌, ℕ, ◌+◌, Bool, true, false, Some}
use Rattle.net_model.specs.World.{Network, World}
use Rattle.net_model.specs.Action.{Crash, Arm, Armed, Fault}
use Rattle.net_model.specs.Step.{step, is_enabled, IsStep}
use Rattle.disk_model.specs.declared.arm.Arm.{Arm as DiskArm}
use Rattle.run_ops.specs.Reported.{crashed}
use Rattle.kme_store.specs.declared.post.Post.{Post}
use Rattle.world_nodes.specs.LaneStands.{IsRunning}
use Rattle.world_nodes.specs.Stands.{PostStands}
use Rattle.world_nodes.specs.Counts.{CountsBy, Counts}
use Rattle.disk_model.specs.declared.disk.Disk as Disk
use Rattle.source_devices.specs.declared.entropy.Entropy as Entropy

-- The node has sent and noted all its orders.
pub record MayCrash {K E : Type 0} (disk_says : Disk.Ghosts K) (entropy_says : Entropy.Ghosts E) (net : Network) (w : World) (v : ℕ) (post : Post K E) : Type 0 where
  pub running : IsRunning net w
  pub stands : PostStands disk_says entropy_says net w v post
  pub enabled : is_enabled net w (Crash v) ≡ true

-- The node's life ended; `was_up` says whether its manager was up.
pub record HasCrashed {K E : Type 0} (disk_says : Disk.Ghosts K) (entropy_says : Entropy.Ghosts E) (net : Network) (w : World) (v : ℕ) (old new : Post K E) (was_up : Bool) : Type 0 where
  pub may : IsStep net w (Crash v)
  pub said : (step net w (Crash v)).1 ≡ crashed was_up
  pub stands : PostStands disk_says entropy_says net (step net w (Crash v)).0 v new
  pub counts : Counts disk_says entropy_says false false old new

-- The node's disk may be armed with this fault.
pub record MayArm {K E : Type 0} (disk_says : Disk.Ghosts K) (entropy_says : Entropy.Ghosts E) (net : Network) (w : World) (v : ℕ) (fault : Fault) (post : Post K E) : Type 0 where
  pub stands : PostStands disk_says entropy_says net w v post
  pub enabled : is_enabled net w (Arm v fault) ≡ true

pub record HasArmed {K E : Type 0} (disk_says : Disk.Ghosts K) (entropy_says : Entropy.Ghosts E) (net : Network) (w : World) (v : ℕ) (fault : Fault) (new : Post K E) : Type 0 where
  pub may : IsStep net w (Arm v fault)
  pub said : (step net w (Arm v fault)).1 ≡ Armed
  pub stands : PostStands disk_says entropy_says net (step net w (Arm v fault)).0 v new

-- The disk was armed once more, last with this fault, and no part failed.
abbrev pub IsArmedWith : {K E : Type 0} → Disk.Ghosts K → Entropy.Ghosts E → DiskArm → Post K E → Post K E → Type 0
IsArmedWith disk_says entropy_says arm old new =
    CountsBy (λ before now. now ≡ record { count = before.count + 1; last = Some arm }) disk_says entropy_says false false old new
