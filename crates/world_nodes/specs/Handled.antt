-- How the network handles an event at a post.
use Rattle.std.specs.Prelude.{◌≡◌, ℕ, ◌<◌, true}
use Rattle.std.specs.List.{list_all}
use Rattle.net_model.specs.declared.event.Event.{Event}
use Rattle.net_model.specs.declared.reply.Reply.{Reply}
use Rattle.net_model.specs.World.{Network, World}
use Rattle.net_model.specs.Needed.{view_of}
use Rattle.net_model.specs.Decision.{Does, Effect}
use Rattle.net_model.specs.Decide.{random_need}
use Rattle.net_model.specs.Events.{is_valid_event}
use Rattle.net_model.specs.Handle.{is_numbered, commit, handle}
use Rattle.net_model.specs.Fold.{view_after}
use Rattle.net_model.specs.Faults.{is_random_fault}
use Rattle.net_model.specs.Action.{Action, Environment, EntropyFault, Outcome, Replies, is_shown, is_entropy_fault, is_io_fault}
use Rattle.net_model.specs.Step.{step, IsStep}
use Rattle.law_invariant.specs.May.{decided}
use Rattle.law_recovery.specs.Fitting.{AllFit}
use Rattle.kme_base.specs.Up.{AreUp}
use Rattle.kme_store.specs.Manager.{HasDisk}
use Rattle.kme_store.specs.declared.post.Post.{Post}
use Rattle.kme_store.specs.declared.post.Post.TheVariants.{On, Off}
use Rattle.world_nodes.specs.LaneStands.{IsRunning}
use Rattle.world_nodes.specs.Stands.{PostStands}
use Rattle.world_nodes.specs.Counts.{Counts}
use Rattle.disk_model.specs.declared.disk.Disk as Disk
use Rattle.source_devices.specs.declared.entropy.Entropy as Entropy

-- The post's disk has this property.
abbrev pub OnDisk : {K E : Type 0} → (K → Type 0) → Post K E → Type 0
OnDisk P (On m) = HasDisk P m.standing
OnDisk P (Off disk entropy) = P disk

-- If the node commits the effect that it decides on an event, its view changes by just that effect.
abbrev pub ViewGoesOn : Network → World → ℕ → Event → Type 0
ViewGoesOn net w v event =
    (octets : ℕ) (e : Effect) → decided net w v event ≡ Does e → list_all is_numbered e.batch ≡ true → view_of net (commit net.site w v octets e) v ≡ view_after (view_of net w v) e

-- The batch of the effect that the node decides fits the node's view.
abbrev pub BatchFits : Network → World → ℕ → Event → Type 0
BatchFits net w v event = (e : Effect) → decided net w v event ≡ Does e → AllFit net (view_of net w v) e.batch

-- The event may be given to the node's manager, and these links are up.
pub record MayHandle {K E : Type 0} (disk_says : Disk.Ghosts K) (entropy_says : Entropy.Ghosts E) (net : Network) (w : World) (v : ℕ) (post : Post K E) (event : Event) (up : ℕ) : Type 0 where
  pub running : IsRunning net w
  pub stands : PostStands disk_says entropy_says net w v post
  pub valid : is_valid_event net.site v event ≡ true
  pub goes : ViewGoesOn net w v event
  pub fits : BatchFits net w v event
  pub links : AreUp up w.link_up

-- The action happens with an answer of the environment that agrees with the outcome. The post stands for the node afterwards. The counts of its
-- disk and its entropy rise with their faults alone.
pub record Happens {K E : Type 0} (disk_says : Disk.Ghosts K) (entropy_says : Entropy.Ghosts E) (action : Environment → Action) (net : Network) (w : World) (v : ℕ) (old new : Post K E) (outcome : Outcome) : Type 0 where
  pub environment : Environment
  pub may : IsStep net w (action environment)
  pub said : (step net w (action environment)).1 ≡ outcome
  pub stands : PostStands disk_says entropy_says net (step net w (action environment)).0 v new
  pub counts : Counts disk_says entropy_says (is_io_fault environment) (is_random_fault v (action environment)) old new

-- The network handles the event with an answer of the environment that agrees with the reply. The post stands for the node afterwards.
-- The entropy fails only in an event that asks it.
pub record Handled {K E : Type 0} (disk_says : Disk.Ghosts K) (entropy_says : Entropy.Ghosts E) (net : Network) (w : World) (v : ℕ) (event : Event) (old new : Post K E) (reply : Reply) : Type 0 where
  pub environment : Environment
  pub shown : is_shown environment (Replies reply) ≡ true
  pub entropy_asked : environment ≡ EntropyFault → 0 < random_need (view_of net w v) event
  pub said : (handle net w v event environment).1 ≡ Replies reply
  pub stands : PostStands disk_says entropy_says net (handle net w v event environment).0 v new
  pub counts : Counts disk_says entropy_says (is_io_fault environment) (is_entropy_fault environment) old new
