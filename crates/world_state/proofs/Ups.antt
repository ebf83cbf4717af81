-- Reading a state that stands for a world.
use Rattle.std.proofs.Common.{◌≡◌, ℕ, false, sym}
use Rattle.net_model.specs.World.{Network, World}
use Rattle.world_nodes.specs.Passed.{ManagerForm, is_up, Standing, Up, Down, Between, On, Off}
use Rattle.world_nodes.specs.Stands.{PostStands, StandingStands}
use Rattle.disk_model.specs.declared.disk.Disk as Disk
use Rattle.source_devices.specs.declared.entropy.Entropy as Entropy

module _ {K E : Type 0} (disk_says : Disk.Ghosts K) (entropy_says : Entropy.Ghosts E) (net : Network) (w : World) (v : ℕ) where
  standing_up : (m : ManagerForm K E) (s : Standing K) → StandingStands disk_says net w v m.site m.view s → is_up s ≡ w.up v
  standing_up m (Up journal) stands = sym stands.up
  standing_up m (Down disk) stands = sym stands.down
  standing_up m Between stands = absurd stands

  pub manager_up : (m : ManagerForm K E) → PostStands disk_says entropy_says net w v (On m) → is_up m.standing ≡ w.up v
  manager_up m stands = standing_up m m.standing stands.standing

  pub off_down : (disk : K) (entropy : E) → PostStands disk_says entropy_says net w v (Off disk entropy) → w.up v ≡ false
  off_down disk entropy stands = stands.1.down
