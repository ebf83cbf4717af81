-- An action that changes nothing.
use Rattle.std.proofs.Common.{◌≡◌, ℕ, true, false, refl, sym, ap, subst, ◌∙◌, None}
use Rattle.net_model.specs.World.{Network, World}
use Rattle.net_model.specs.Action.{Action, Outcome, is_shown, environment_of}
use Rattle.net_model.specs.Faults.{is_disk_fault, is_random_fault, fault_armed}
use Rattle.net_model.specs.Step.{step, is_enabled}
use Rattle.law_base.proofs.Base.{and_both}
use Rattle.run_model.specs.Play.{plain}
use Rattle.run_ops.specs.Acting.{IsReady, Does}
use Rattle.world_state.specs.Stands.{Stands}
use Rattle.world_state.specs.Tallied.{Tallied}
use Rattle.world_state.specs.declared.state.State.{State}
use Rattle.world_state.proofs.Disks.{has_disks}
use Rattle.world_state.proofs.OneTallied.{CountsNoOther, all_tallied, posts_still, devices_still, wires_still}
use Rattle.world_state.specs.Outside.{Outside}

module _ {K Q E X : Type 0} (outside : Outside K Q E X)
    (old : State K Q E X) (net : Network) (w : World) (ready : IsReady (Stands outside) old net w) where
  pub stays_done : (a : Action) (outcome : Outcome) → plain a ≡ a → is_enabled net w a ≡ true → is_shown (environment_of a) outcome ≡ true → step net w a ≡ (w, outcome) →
      ((u : ℕ) → (is_disk_fault net.site u a ≡ false) × (is_random_fault u a ≡ false) × (fault_armed u a ≡ None)) → CountsNoOther a →
      Does (Stands outside) (Tallied outside) old old net w a outcome
  stays_done a outcome is enabled shown steps none other =
      let said : (step net w a).1 ≡ outcome = ap (λ (r : World × Outcome). r.1) steps in
      record {
        action = a;
        is = is;
        may = and_both (is_enabled net w a) (is_shown (environment_of a) (step net w a).1) enabled (ap (is_shown (environment_of a)) said ∙ shown);
        said = said;
        ready = subst (λ (x : World). IsReady (Stands outside) old net x) (sym (ap (λ (r : World × Outcome). r.0) steps)) ready;
        tallied = all_tallied outside net.site a old old refl refl refl
            (posts_still outside net.site a old old (has_disks outside old net w ready.stands) refl none)
            (devices_still outside net.site a old old refl other.devices)
            (wires_still outside net.site a old old refl other.wires);
      }
