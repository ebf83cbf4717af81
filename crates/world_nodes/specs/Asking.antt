-- Asking a node's manager to handle an event, as an action of the network.
use Rattle.std.specs.Prelude.{◌≡◌, ℕ, true}
use Rattle.net_model.specs.declared.event.Event.{Event}
use Rattle.net_model.specs.declared.reply.Reply.{Reply}
use Rattle.net_model.specs.World.{Network, World}
use Rattle.net_model.specs.Action.{Ok, Ask, Replies}
use Rattle.net_model.specs.Step.{is_enabled}
use Rattle.kme_base.specs.Up.{AreUp}
use Rattle.kme_store.specs.declared.post.Post.{Post}
use Rattle.world_nodes.specs.LaneStands.{IsRunning}
use Rattle.world_nodes.specs.Stands.{PostStands}
use Rattle.world_nodes.specs.Handled.{Happens}
use Rattle.disk_model.specs.declared.disk.Disk as Disk
use Rattle.source_devices.specs.declared.entropy.Entropy as Entropy

-- The node may be asked to handle this event, and these links are up.
pub record MayAsk {K E : Type 0} (disk_says : Disk.Ghosts K) (entropy_says : Entropy.Ghosts E) (net : Network) (w : World) (v : ℕ) (post : Post K E) (event : Event) (up : ℕ) : Type 0 where
  pub running : IsRunning net w
  pub stands : PostStands disk_says entropy_says net w v post
  pub enabled : is_enabled net w (Ask v event Ok) ≡ true
  pub links : AreUp up w.link_up

-- The network does this action, and the node answers with the reply.
abbrev pub Asked : {K E : Type 0} → Disk.Ghosts K → Entropy.Ghosts E → Network → World → ℕ → Event → Post K E → Post K E → Reply → Type 0
Asked disk_says entropy_says net w v event old new reply =
    Happens disk_says entropy_says (λ environment. Ask v event environment) net w v old new (Replies reply)
