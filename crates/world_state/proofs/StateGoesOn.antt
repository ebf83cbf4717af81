-- If an action does to a state what it does to the network, the state stands for the world after it.
use Rattle.std.proofs.Common.{◌≡◌, inl, inr, ℕ, true, false, sym, ap, ◌∙◌}
use Rattle.net_model.specs.World.{Network, World}
use Rattle.net_model.specs.Action.{Action, Start, Crash, Arm, SetLink, TakeBlock, Ask, Allocate, Transmit, Complete, Deliver, Flip, Forge, is_shown, environment_of}
use Rattle.net_model.specs.Step.{step, is_enabled, IsStep}
use Rattle.declared_site.specs.SiteOf.{site_of}
use Rattle.law_base.proofs.Base.{and_left}
use Rattle.law_invariant.proofs.Steps.{step_keeps}
use Rattle.law_locality.specs.Touched.{ManagerStays}
use Rattle.law_locality.proofs.ManagerSteps.{step_unseen, transmit_unseen}
use Rattle.world_nodes.specs.LaneStands.{IsRunning}
use Rattle.world_nodes.proofs.Going.{post_on}
use Rattle.world_state.specs.Changed.{changes_node}
use Rattle.world_state.specs.Stands.{Stands}
use Rattle.world_state.specs.Moving.{Moves}
use Rattle.world_state.specs.declared.state.State.{State}
use Rattle.world_state.proofs.LanesGoOn.{lane_goes_on}
use Rattle.world_state.specs.Outside.{Outside}

pub running_on : (net : Network) (w : World) (a : Action) → IsRunning net w → IsStep net w a → IsRunning net (step net w a).0
running_on net w a r may = record { network = r.network; conserved = step_keeps net w a r.network may r.conserved; sealing = r.sealing }

pub enabled_of : (net : Network) (w : World) (a : Action) → IsStep net w a → is_enabled net w a ≡ true
enabled_of net w a may = and_left (is_enabled net w a) (is_shown (environment_of a) (step net w a).1) may

-- A manager that the action doesn't change stays as it was.
pub manager_on : (net : Network) (w : World) (a : Action) (v : ℕ) → IsRunning net w → is_enabled net w a ≡ true → changes_node net.site a v ≡ false → ManagerStays net v w (step net w a).0
manager_on net w (Transmit l j environment) v r may none = transmit_unseen net w v l j environment
manager_on net w (Start u recovery) v r may none = (step_unseen net w r.network r.conserved v (Start u recovery) may none).manager
manager_on net w (Crash u) v r may none = (step_unseen net w r.network r.conserved v (Crash u) may none).manager
manager_on net w (Arm u fault) v r may none = (step_unseen net w r.network r.conserved v (Arm u fault) may none).manager
manager_on net w (SetLink link up) v r may none = (step_unseen net w r.network r.conserved v (SetLink link up) may none).manager
manager_on net w (TakeBlock u link environment) v r may none = (step_unseen net w r.network r.conserved v (TakeBlock u link environment) may none).manager
manager_on net w (Ask u event environment) v r may none = (step_unseen net w r.network r.conserved v (Ask u event environment) may none).manager
manager_on net w (Allocate t) v r may none = (step_unseen net w r.network r.conserved v (Allocate t) may none).manager
manager_on net w (Complete u) v r may none = (step_unseen net w r.network r.conserved v (Complete u) may none).manager
manager_on net w (Deliver l number environment) v r may none = (step_unseen net w r.network r.conserved v (Deliver l number environment) may none).manager
manager_on net w (Flip l number bit environment) v r may none = (step_unseen net w r.network r.conserved v (Flip l number bit environment) may none).manager
manager_on net w (Forge l octets environment) v r may none = (step_unseen net w r.network r.conserved v (Forge l octets environment) may none).manager

module _ {K Q E X : Type 0} (outside : Outside K Q E X) (old new : State K Q E X) (net : Network) (w : World) (a : Action) where
  abbrev after : World
  after = (step net w a).0

  pub state_goes_on : IsStep net w a → Stands outside old net w → Moves outside old new net w a →
      Stands outside new net after
  state_goes_on may s m =
      let enabled = enabled_of net w a may in
      record {
        running = running_on net w a s.running may;
        sited = s.sited ∙ sym (ap site_of m.site);
        nodes = m.nodes ∙ s.nodes;
        posts = λ v p there. elim (m.posts v p there) [
          | inl stands ↦ stands
          | inr same ↦ post_on outside.disk outside.entropy net w after v (manager_on net w a v s.running enabled same.0) p (s.posts v p same.1)
        ];
        sides = m.sides ∙ s.sides;
        lanes = λ l side at there. elim (m.lanes l side at there) [
          | inl stands ↦ stands
          | inr same ↦ lane_goes_on net w s.running l outside.wire a side at enabled same.0 (s.lanes l side at same.1)
        ];
        links = m.links ∙ s.links;
        devices = m.devices;
        up = m.up;
      }
