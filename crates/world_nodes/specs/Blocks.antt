-- A node takes the next block from a link's device, as an action of the network.
use Rattle.std.specs.Prelude.{◌≡◌, ℕ, ◌+◌, ◌*◌, ◌==◌, true, false, List, Option, MatchOption}
use Rattle.net_model.specs.OctetSequence.{has_octets, block_at}
use Rattle.net_model.specs.World.{Network, World}
use Rattle.net_model.specs.Handle.{blocks_at}
use Rattle.net_model.specs.Action.{Environment, Ok, DeviceFault, TakeBlock, Outcome, DeviceFailed, is_io_fault}
use Rattle.net_model.specs.Step.{step, is_enabled, IsStep}
use Rattle.kme_base.specs.Up.{AreUp}
use Rattle.kme_store.specs.declared.post.Post.{Post}
use Rattle.world_nodes.specs.LaneStands.{IsRunning}
use Rattle.world_nodes.specs.Stands.{PostStands}
use Rattle.world_nodes.specs.Counts.{Counts}
use Rattle.disk_model.specs.declared.disk.Disk as Disk
use Rattle.source_devices.specs.declared.entropy.Entropy as Entropy

-- The link joins the node, and these links are up.
pub record MayTake {K E : Type 0} (disk_says : Disk.Ghosts K) (entropy_says : Entropy.Ghosts E) (net : Network) (w : World) (v : ℕ) (post : Post K E) (link up : ℕ) : Type 0 where
  pub running : IsRunning net w
  pub stands : PostStands disk_says entropy_says net w v post
  pub enabled : is_enabled net w (TakeBlock v link Ok) ≡ true
  pub links : AreUp up w.link_up

-- the number of the next block, if the node's manager is up
abbrev pub IsNext : Network → World → ℕ → ℕ → Option ℕ → Type 0
IsNext net w v link next = MatchOption next (w.up v ≡ false) (λ number. (w.up v ≡ true) × (number ≡ blocks_at net w v link))

-- The block is the next one of the link's device, and the manager is up.
pub record MayPut {K E : Type 0} (disk_says : Disk.Ghosts K) (entropy_says : Entropy.Ghosts E) (net : Network) (w : World) (v : ℕ) (post : Post K E) (link number : ℕ) (block : List ℕ) (up : ℕ) : Type 0 where
  pub may : MayTake disk_says entropy_says net w v post link up
  pub is_up : w.up v ≡ true
  pub next : number ≡ blocks_at net w v link
  pub room : (number == 1024) ≡ false
  pub there : has_octets (net.device link) (1024 + 1024 * number) ≡ true
  pub bytes : block ≡ block_at (net.device link) number

-- The network takes the block, with an answer of the environment that agrees with the outcome. A fault of the device is reported, and only a fault is
-- reported as one.
pub record IsTaken {K E : Type 0} (disk_says : Disk.Ghosts K) (entropy_says : Entropy.Ghosts E) (net : Network) (w : World) (v link : ℕ) (old new : Post K E) (outcome : Outcome) : Type 0 where
  pub environment : Environment
  pub may : IsStep net w (TakeBlock v link environment)
  pub said : (step net w (TakeBlock v link environment)).1 ≡ outcome
  pub stands : PostStands disk_says entropy_says net (step net w (TakeBlock v link environment)).0 v new
  pub counts : Counts disk_says entropy_says (is_io_fault environment) false old new
  pub device : environment ≡ DeviceFault → outcome ≡ DeviceFailed
  pub no_device : outcome ≡ DeviceFailed → environment ≡ DeviceFault
