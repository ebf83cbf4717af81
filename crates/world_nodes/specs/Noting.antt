-- A node notes what became of its frames, as an action of the network.
use Rattle.std.specs.Prelude.{◌≡◌, ℕ, Bool, true, false, List}
use Rattle.net_model.specs.declared.event.Event.TheVariants.{Note}
use Rattle.net_model.specs.declared.placing.Placing.{Placing}
use Rattle.net_model.specs.declared.reply.Reply.{Reply}
use Rattle.net_model.specs.declared.reply.Reply.TheVariants.{Memory}
use Rattle.net_model.specs.World.{Network, World}
use Rattle.net_model.specs.Events.{is_valid_event}
use Rattle.net_model.specs.Action.{Complete, Replies}
use Rattle.net_model.specs.Step.{step, is_enabled, IsStep}
use Rattle.kme_base.specs.Up.{AreUp}
use Rattle.kme_store.specs.declared.post.Post.{Post}
use Rattle.world_nodes.specs.LaneStands.{IsRunning}
use Rattle.world_nodes.specs.Stands.{PostStands}
use Rattle.world_nodes.specs.Counts.{Counts}
use Rattle.disk_model.specs.declared.disk.Disk as Disk
use Rattle.source_devices.specs.declared.entropy.Entropy as Entropy

-- The placings are exactly those of the node, which has sent all its orders. Each has the size of a frame.
pub record MayNote {K E : Type 0} (disk_says : Disk.Ghosts K) (entropy_says : Entropy.Ghosts E) (net : Network) (w : World) (v : ℕ) (post : Post K E) (placings : List Placing) (up : ℕ) : Type 0 where
  pub running : IsRunning net w
  pub stands : PostStands disk_says entropy_says net w v post
  pub enabled : is_enabled net w (Complete v) ≡ true
  pub are : placings ≡ w.placings v
  pub sized : is_valid_event net.site v (Note placings) ≡ true
  pub links : AreUp up w.link_up

pub record HasNoted {K E : Type 0} (disk_says : Disk.Ghosts K) (entropy_says : Entropy.Ghosts E) (net : Network) (w : World) (v : ℕ) (old new : Post K E) (reply : Reply) : Type 0 where
  pub may : IsStep net w (Complete v)
  pub said : (step net w (Complete v)).1 ≡ Replies reply
  pub stands : PostStands disk_says entropy_says net (step net w (Complete v)).0 v new
  pub counts : Counts disk_says entropy_says false false old new

abbrev pub is_memory : Reply → Bool
is_memory Memory = true
is_memory _ = false
