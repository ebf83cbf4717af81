-- Setting a link up or down.
use Rattle.std.proofs.Common.{◌≡◌, inr, ℕ, ◌<◌, Bool, true, refl, sym, ap, subst, ◌∙◌}
use Rattle.std.specs.Prelude.{◌==◌, if◌then◌else◌}
use Rattle.net_model.specs.Site.{Site}
use Rattle.net_model.specs.World.{Network, World}
use Rattle.net_model.specs.Action.{Action, SetLink, LinkSet}
use Rattle.net_model.specs.Step.{step, is_enabled, IsStep}
use Rattle.declared_site.specs.SiteOf.{site_of}
use Rattle.route_table.specs.Layer.{bit_is_set}
use Rattle.law_base.proofs.Base.{and_both}
use Rattle.run_ops.specs.Fitting.{is_fit}
use Rattle.run_ops.specs.Acting.{IsReady, Does}
use Rattle.world_state.specs.Stands.{Stands}
use Rattle.world_state.specs.Moving.{Moves}
use Rattle.world_state.specs.Tallied.{Tallied}
use Rattle.world_state.specs.declared.state.State.{State}
use Rattle.world_state.proofs.Disks.{has_disks}
use Rattle.world_state.proofs.OneTallied.{all_tallied, posts_still, devices_still, wires_still}
use Rattle.world_state.proofs.QuietStays.{quiet_stays}
use Rattle.world_state.proofs.StateGoesOn.{state_goes_on}
use Rattle.world_state.specs.Outside.{Outside}

link_set : (net : Network) (w : World) (link : ℕ) (up : Bool) (other : ℕ) → (step net w (SetLink link up)).0.link_up other ≡ (if other == link then up else w.link_up other)
unfolding step
link_set net w link up other = refl

link_said : (net : Network) (w : World) (link : ℕ) (up : Bool) → (step net w (SetLink link up)).1 ≡ LinkSet
unfolding step
link_said net w link up = refl

may_set : (net : Network) (w : World) (link : ℕ) (up : Bool) → is_fit net.site (SetLink link up) ≡ true → is_enabled net w (SetLink link up) ≡ true
unfolding is_enabled
may_set net w link up fit = fit

module _ {K Q E X : Type 0} (outside : Outside K Q E X)
    (old : State K Q E X) (net : Network) (w : World) (link : ℕ) (up : Bool) (ready : IsReady (Stands outside) old net w)
    (fit : is_fit (site_of old.site) (SetLink link up) ≡ true) (number : ℕ) (set : (other : ℕ) → other < 32 → bit_is_set number other ≡ (if other == link then up else bit_is_set old.up other)) where
  abbrev new : State K Q E X
  new = record { site = old.site; posts = old.posts; lanes = old.lanes; devices = old.devices; up = number }

  abbrev action : Action
  action = SetLink link up

  enabled : is_enabled net w action ≡ true
  enabled = may_set net w link up (subst (λ (s : Site). is_fit s action ≡ true) (sym ready.stands.sited) fit)

  may : IsStep net w action
  may = and_both (is_enabled net w action) true enabled refl

  moves : Moves outside old new net w action
  moves = record {
    site = refl;
    nodes = refl;
    posts = λ v p there. inr (refl, there);
    sides = refl;
    lanes = λ l side at there. inr (refl, there);
    links = refl;
    devices = ready.stands.devices;
    up = λ other below. link_set net w link up other ∙ ap (λ (b : Bool). if other == link then up else b) (ready.stands.up other below) ∙ sym (set other below);
  }

  pub link_done : Does (Stands outside) (Tallied outside) old new net w action LinkSet
  link_done = record {
    action = action;
    is = refl;
    may = may;
    said = link_said net w link up;
    ready = record {
      stands = state_goes_on outside old new net w action may ready.stands moves;
      quiet = quiet_stays net w action ready.stands.running enabled refl ready.quiet;
    };
    tallied = all_tallied outside net.site action old new refl refl refl
        (posts_still outside net.site action old new (has_disks outside old net w ready.stands) refl (λ v. (refl, refl, refl)))
        (devices_still outside net.site action old new refl (λ k. refl))
        (wires_still outside net.site action old new refl (λ l. refl));
  }
