-- Starting a node's manager, as an action of the network.
use Rattle.std.specs.Prelude.{◌≡◌, ℕ, ◌<◌, true, false}
use Rattle.net_model.specs.World.{Network, World}
use Rattle.net_model.specs.Faults.{is_interrupted}
use Rattle.net_model.specs.Action.{Recovery, Start}
use Rattle.net_model.specs.Step.{step, is_quiet, IsStep}
use Rattle.declared_site.specs.SiteOf.{site_of}
use Rattle.declared_site.specs.declared.site.Site.{Site as Declared}
use Rattle.run_types.specs.declared.start_result.StartResult.{StartResult}
use Rattle.run_types.specs.declared.start_result.StartResult.TheVariants as starts
use Rattle.run_ops.specs.Reported.{started}
use Rattle.kme_store.specs.Passed.{RecoverRefusal}
use Rattle.kme_store.specs.Refusals as refusals
use Rattle.kme_store.specs.declared.post.Post.{Post}
use Rattle.world_nodes.specs.LaneStands.{IsRunning}
use Rattle.world_nodes.specs.Stands.{PostStands}
use Rattle.world_nodes.specs.Counts.{Counts}
use Rattle.disk_model.specs.declared.disk.Disk as Disk
use Rattle.source_devices.specs.declared.entropy.Entropy as Entropy

-- The node is one of this site, and has no order that is still to be sent or noted.
pub record MayStart {K E : Type 0} (disk_says : Disk.Ghosts K) (entropy_says : Entropy.Ghosts E) (net : Network) (w : World) (v : ℕ) (site : Declared) (post : Post K E) : Type 0 where
  pub running : IsRunning net w
  pub stands : PostStands disk_says entropy_says net w v post
  pub node : v < net.site.nodes
  pub quiet : is_quiet net w v ≡ true
  pub sited : site_of site ≡ net.site

-- The network starts the node with an answer of the environment, and the post stands for the node afterwards. A start is stopped only by a fault of
-- its disk.
pub record HasStarted {K E : Type 0} (disk_says : Disk.Ghosts K) (entropy_says : Entropy.Ghosts E) (net : Network) (w : World) (v : ℕ) (old new : Post K E) (result : StartResult) : Type 0 where
  pub recovery : Recovery
  pub may : IsStep net w (Start v recovery)
  pub said : (step net w (Start v recovery)).1 ≡ started result
  pub stands : PostStands disk_says entropy_says net (step net w (Start v recovery)).0 v new
  pub counts : Counts disk_says entropy_says (is_interrupted recovery) false old new

-- how a refused start is reported
abbrev pub result_of : RecoverRefusal → StartResult
result_of refusals.Stopped = starts.Stopped
result_of (refusals.Foreign place) = starts.Foreign place
result_of refusals.Memory = starts.Memory
