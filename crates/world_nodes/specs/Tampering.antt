-- Octets that anybody may have made or changed come to a lane's receiver, as actions of the network.
use Rattle.std.specs.Prelude.{◌≡◌, ℕ, ◌*◌, nat_le, Bool, true, false, not, ◌&&◌, List, length, find, slice_get, is_some, Option, Some, None}
use Rattle.qkd_base.specs.declared.lane.Lane.{Lane}
use Rattle.net_model.specs.declared.reply.Reply.{Reply}
use Rattle.net_model.specs.Site.{receiver}
use Rattle.net_model.specs.World.{Network, World}
use Rattle.net_model.specs.Events.{is_lane}
use Rattle.net_model.specs.Frames.{frame_octets, octets_eq, octets_received, with_flipped, tampered}
use Rattle.net_model.specs.Action.{Environment, Ok, Flip, Forge, Outcome, Replies, ForgedMatch, is_shown, is_io_fault}
use Rattle.net_model.specs.Step.{is_enabled}
use Rattle.hop_frames.specs.Opening.{open_of}
use Rattle.kme_base.specs.Up.{AreUp}
use Rattle.kme_store.specs.Passed.{is_match}
use Rattle.kme_store.specs.declared.post.Post.{Post}
use Rattle.world_nodes.specs.LaneStands.{IsRunning}
use Rattle.world_nodes.specs.Stands.{PostStands}
use Rattle.world_nodes.specs.Handled.{Happens}
use Rattle.world_nodes.specs.Counts.{Counts}
use Rattle.disk_model.specs.declared.disk.Disk as Disk
use Rattle.source_devices.specs.declared.entropy.Entropy as Entropy

-- the frame on a lane's wire that has these octets
abbrev pub put_as : Network → World → Lane → List ℕ → Option ℕ
put_as net w l octets = find (λ j. octets_eq (frame_octets net w l (slice_get (w.frames l) j)) octets) (w.wire l)

-- The receiver's manager is up, and the octets have a right tag there.
abbrev pub would_match : Network → World → Lane → List ℕ → Bool
would_match net w l octets = w.up (receiver net.site l) && is_match (open_of l (octets_received net w l) octets)

-- Nobody put the octets, and they would match.
abbrev pub is_forged : Network → World → Lane → List ℕ → Bool
is_forged net w l octets = not (is_some (put_as net w l octets)) && would_match net w l octets

-- the post of a lane's receiver
pub record ReceiverStands {K E : Type 0} (disk_says : Disk.Ghosts K) (entropy_says : Entropy.Ghosts E) (net : Network) (w : World) (lane : Lane) (post : Post K E) : Type 0 where
  pub running : IsRunning net w
  pub stands : PostStands disk_says entropy_says net w (receiver net.site lane) post
  pub at : is_lane net.site lane ≡ true

-- the octets on a lane, and whether they are forged
pub record MayTamper {K E : Type 0} (disk_says : Disk.Ghosts K) (entropy_says : Entropy.Ghosts E) (net : Network) (w : World) (lane : Lane) (post : Post K E) (octets : List ℕ) (forged : Bool) (up : ℕ) : Type 0 where
  pub there : ReceiverStands disk_says entropy_says net w lane post
  pub is : forged ≡ is_forged net w lane octets
  pub links : AreUp up w.link_up

-- The outcome is the receiver's reply. If there is none, octets that nobody put have a right tag, and the run ends.
abbrev pub tampered_outcome : Option Reply → Outcome
tampered_outcome None = ForgedMatch
tampered_outcome (Some reply) = Replies reply

pub record HasTampered {K E : Type 0} (disk_says : Disk.Ghosts K) (entropy_says : Entropy.Ghosts E) (net : Network) (w : World) (lane : Lane) (octets : List ℕ) (old new : Post K E) (reply : Option Reply) : Type 0 where
  pub environment : Environment
  pub shown : is_shown environment (tampered_outcome reply) ≡ true
  pub said : (tampered net w lane octets environment).1 ≡ tampered_outcome reply
  pub stands : PostStands disk_says entropy_says net (tampered net w lane octets environment).0 (receiver net.site lane) new
  pub counts : Counts disk_says entropy_says (is_io_fault environment) false old new

-- octets that anybody made
pub record MayForge {K E : Type 0} (disk_says : Disk.Ghosts K) (entropy_says : Entropy.Ghosts E) (net : Network) (w : World) (lane : Lane) (post : Post K E) (octets : List ℕ) (forged : Bool) (up : ℕ) : Type 0 where
  pub tampers : MayTamper disk_says entropy_says net w lane post octets forged up
  pub enabled : is_enabled net w (Forge lane octets Ok) ≡ true

-- a frame of the wire with one of its bits changed
pub record MayFlip {K E : Type 0} (disk_says : Disk.Ghosts K) (entropy_says : Entropy.Ghosts E) (net : Network) (w : World) (lane : Lane) (number bit : ℕ) (post : Post K E) (octets : List ℕ) (forged : Bool) (up : ℕ) : Type 0 where
  pub tampers : MayTamper disk_says entropy_says net w lane post octets forged up
  pub frame : ℕ
  pub there : slice_get (w.wire lane) number ≡ Some frame
  pub has : nat_le (8 * length (frame_octets net w lane (slice_get (w.frames lane) frame))) bit ≡ false
  pub are : octets ≡ with_flipped (frame_octets net w lane (slice_get (w.frames lane) frame)) bit

abbrev pub HasForged : {K E : Type 0} → Disk.Ghosts K → Entropy.Ghosts E → Network → World → Lane → List ℕ → Post K E → Post K E → Option Reply → Type 0
HasForged disk_says entropy_says net w lane octets old new reply =
    Happens disk_says entropy_says (λ environment. Forge lane octets environment) net w (receiver net.site lane) old new (tampered_outcome reply)

abbrev pub HasFlipped : {K E : Type 0} → Disk.Ghosts K → Entropy.Ghosts E → Network → World → Lane → ℕ → ℕ → Post K E → Post K E → Option Reply → Type 0
HasFlipped disk_says entropy_says net w lane number bit old new reply =
    Happens disk_says entropy_says (λ environment. Flip lane number bit environment) net w (receiver net.site lane) old new (tampered_outcome reply)
