-- Counts of a node's post: how often its disk and its entropy failed, and how its disk is armed.
use Rattle.std.specs.Prelude.{◌≡◌, ℕ, ◌≤◌, Bool, true, false, Option, Some, None}
use Rattle.qkd_base.specs.Faults.{Rose}
use Rattle.disk_model.specs.declared.arm.Armings.{Armings}
use Rattle.kme_store.specs.declared.manager_state.Standing.{Standing}
use Rattle.kme_store.specs.declared.manager_state.Standing.TheVariants.{Up, Down, Between}
use Rattle.kme_store.specs.declared.post.Post.{Post}
use Rattle.kme_store.specs.declared.post.Post.TheVariants.{On, Off}
use Rattle.disk_model.specs.declared.disk.Disk as Disk
use Rattle.source_devices.specs.declared.entropy.Entropy as Entropy

-- the disk of a manager

abbrev pub disk_in : {K : Type 0} → Standing K → Option K
disk_in (Up journal) = Some journal.disk
disk_in (Down disk) = Some disk
disk_in Between = None

abbrev pub disk_of : {K E : Type 0} → Post K E → Option K
disk_of (On m) = disk_in m.standing
disk_of (Off disk entropy) = Some disk

abbrev pub entropy_of : {K E : Type 0} → Post K E → E
entropy_of (On m) = m.entropy
entropy_of (Off disk entropy) = entropy

-- A count of faults never falls, and a fault raises it. Without a fault, it stays.
pub record IsCounted (fault : Bool) (before now : ℕ) : Type 0 where
  pub later : before ≤ now
  pub rose : fault ≡ true → Rose before now
  pub calm : fault ≡ false → now ≡ before

-- Between two posts, the disk was armed in this way, and exactly these parts failed.
pub record CountsBy {K E : Type 0} (Arms : Armings → Armings → Type 0) (disk_says : Disk.Ghosts K) (entropy_says : Entropy.Ghosts E) (disk_fault entropy_fault : Bool) (old new : Post K E) : Type 0 where
  pub before : K
  pub now : K
  pub was : disk_of old ≡ Some before
  pub is : disk_of new ≡ Some now
  pub disk : IsCounted disk_fault (disk_says.faults before) (disk_says.faults now)
  pub arms : Arms (disk_says.armings before) (disk_says.armings now)
  pub entropy : IsCounted entropy_fault (entropy_says.faults (entropy_of old)) (entropy_says.faults (entropy_of new))

-- Between two posts, exactly these parts failed, and the disk stayed armed as it was.
abbrev pub Counts : {K E : Type 0} → Disk.Ghosts K → Entropy.Ghosts E → Bool → Bool → Post K E → Post K E → Type 0
Counts disk_says entropy_says disk_fault entropy_fault old new = CountsBy (λ before now. now ≡ before) disk_says entropy_says disk_fault entropy_fault old new
