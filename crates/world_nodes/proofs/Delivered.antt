-- Delivering a frame is the same as hearing its octets.
use Rattle.std.proofs.Common.{◌≡◌, ℕ, true, false, List, sym, ap, subst, ◌∙◌}
use Rattle.std.specs.Prelude.{◌==◌, slice_get, Some}
use Rattle.qkd_base.specs.declared.lane.Lane.{Lane}
use Rattle.net_model.specs.declared.event.Event.TheVariants.{Heard}
use Rattle.net_model.specs.declared.reply.Reply.{Reply}
use Rattle.net_model.specs.Site.{receiver}
use Rattle.net_model.specs.World.{Network, World, Allocation}
use Rattle.net_model.specs.Needed.{view_of}
use Rattle.net_model.specs.Decide.{random_need}
use Rattle.net_model.specs.Events.{is_lane, is_valid_event}
use Rattle.net_model.specs.Frames.{frame_octets, deliver_frame}
use Rattle.net_model.specs.Handle.{handle}
use Rattle.net_model.specs.Action.{Environment, Deliver, Outcome, is_shown, is_io_fault, is_entropy_fault}
use Rattle.net_model.specs.Step.{step, is_enabled}
use Rattle.law_base.proofs.Base.{and_both, eq_same}
use Rattle.kme_store.specs.declared.post.Post.{Post}
use Rattle.world_nodes.specs.Stands.{PostStands}
use Rattle.world_nodes.specs.Handled.{MayHandle, Handled}
use Rattle.world_nodes.specs.Hearing.{MayHear, HasHeard}
use Rattle.world_nodes.proofs.Counted.{not_asked, none_heard, spared}
use Rattle.world_nodes.proofs.Hears.{frame_there, payload_there, delivered_heard, hearing_goes, hearing_fits, delivers_number}
use Rattle.disk_model.specs.declared.disk.Disk as Disk
use Rattle.source_devices.specs.declared.entropy.Entropy as Entropy

-- Hearing any octets on a lane is a valid event for the lane's receiver.
pub hearing_valid : (net : Network) (l : Lane) (octets : List ℕ) → is_lane net.site l ≡ true → is_valid_event net.site (receiver net.site l) (Heard l octets) ≡ true
unfolding is_valid_event
hearing_valid net l octets at = and_both (is_lane net.site l) (receiver net.site l == receiver net.site l) at (eq_same (receiver net.site l))

module _ (net : Network) (w : World) (l : Lane) (number : ℕ) where
  enabled : is_lane net.site l ≡ true → (environment : Environment) → is_enabled net w (Deliver l number environment) ≡ true
  unfolding is_enabled
  enabled at environment = at

module _ {K E : Type 0} (disk_says : Disk.Ghosts K) (entropy_says : Entropy.Ghosts E) (net : Network) (w : World) (l : Lane) (number : ℕ) (old : Post K E) (octets : List ℕ) (up : ℕ)
    (m : MayHear disk_says entropy_says net w l number old octets up) where
  abbrev v : ℕ
  v = receiver net.site l

  abbrev a : Allocation
  a = (frame_there net w m.running l m.at number m.frame m.there).0

  framed : slice_get (w.frames l) m.frame ≡ Some a
  framed = (frame_there net w m.running l m.at number m.frame m.there).1

  are : octets ≡ frame_octets net w l (Some a)
  are = m.are ∙ ap (frame_octets net w l) framed

  pub may_handle : MayHandle disk_says entropy_says net w v old (Heard l octets) up
  may_handle =
      let p = payload_there net w m.running l m.at m.frame a framed in
      record {
        running = m.running;
        stands = m.stands;
        valid = hearing_valid net l octets m.at;
        goes = hearing_goes net w m.running l m.at m.frame a framed p.0 p.1 octets are;
        fits = hearing_fits net w m.running l m.at m.frame a framed p.0 p.1 octets are;
        links = m.links;
      }

  delivers : (environment : Environment) → step net w (Deliver l number environment) ≡ handle net w v (Heard l octets) environment
  unfolding step
  delivers environment =
      let p = payload_there net w m.running l m.at m.frame a framed in
      delivers_number net w m.running l m.at number m.frame m.there environment ∙ ap (deliver_frame net w l environment) framed
      ∙ delivered_heard net w m.running l m.at m.frame a framed p.0 p.1 octets are environment

  pub heard : (new : Post K E) (reply : Reply) → Handled disk_says entropy_says net w v (Heard l octets) old new reply →
      HasHeard disk_says entropy_says net w l number old new reply
  heard new reply h =
      let same = delivers h.environment in
      record {
        environment = h.environment;
        may = and_both (is_enabled net w (Deliver l number h.environment)) (is_shown h.environment (step net w (Deliver l number h.environment)).1) (enabled net w l number m.at h.environment)
            (ap (λ (x : World × Outcome). is_shown h.environment x.1) same ∙ ap (is_shown h.environment) h.said ∙ h.shown);
        said = ap (λ (x : World × Outcome). x.1) same ∙ h.said;
        stands = subst (λ (x : World × Outcome). PostStands disk_says entropy_says net x.0 v new) (sym same) h.stands;
        counts = spared disk_says entropy_says (is_io_fault h.environment) (is_entropy_fault h.environment) false old new
            (not_asked h.environment (random_need (view_of net w v) (Heard l octets)) (none_heard (view_of net w v) l octets) h.entropy_asked) h.counts;
      }
