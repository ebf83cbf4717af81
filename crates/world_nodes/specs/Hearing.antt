-- A frame of a lane's wire comes to the lane's receiver, as an action of the network.
use Rattle.std.specs.Prelude.{◌≡◌, ℕ, true, List, slice_get, Some}
use Rattle.qkd_base.specs.declared.lane.Lane.{Lane}
use Rattle.net_model.specs.declared.reply.Reply.{Reply}
use Rattle.net_model.specs.Site.{receiver}
use Rattle.net_model.specs.World.{Network, World}
use Rattle.net_model.specs.Events.{is_lane}
use Rattle.net_model.specs.Frames.{frame_octets}
use Rattle.net_model.specs.Action.{Deliver, Replies}
use Rattle.kme_base.specs.Up.{AreUp}
use Rattle.kme_store.specs.declared.post.Post.{Post}
use Rattle.world_nodes.specs.LaneStands.{IsRunning}
use Rattle.world_nodes.specs.Stands.{PostStands}
use Rattle.world_nodes.specs.Handled.{Happens}
use Rattle.disk_model.specs.declared.disk.Disk as Disk
use Rattle.source_devices.specs.declared.entropy.Entropy as Entropy

-- The octets are those of the frame with this number on the wire.
pub record MayHear {K E : Type 0} (disk_says : Disk.Ghosts K) (entropy_says : Entropy.Ghosts E) (net : Network) (w : World) (lane : Lane) (number : ℕ) (post : Post K E) (octets : List ℕ) (up : ℕ) : Type 0 where
  pub running : IsRunning net w
  pub stands : PostStands disk_says entropy_says net w (receiver net.site lane) post
  pub at : is_lane net.site lane ≡ true
  pub frame : ℕ
  pub there : slice_get (w.wire lane) number ≡ Some frame
  pub are : octets ≡ frame_octets net w lane (slice_get (w.frames lane) frame)
  pub links : AreUp up w.link_up

-- The network delivers the frame, and the receiver answers with the reply.
abbrev pub HasHeard : {K E : Type 0} → Disk.Ghosts K → Entropy.Ghosts E → Network → World → Lane → ℕ → Post K E → Post K E → Reply → Type 0
HasHeard disk_says entropy_says net w lane number old new reply =
    Happens disk_says entropy_says (λ environment. Deliver lane number environment) net w (receiver net.site lane) old new (Replies reply)
