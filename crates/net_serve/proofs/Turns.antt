-- A manager that is asked takes its turn, and may then be asked again.
use Rattle.std.proofs.Common.{◌≡◌, ℕ, true, ◌&&◌, refl, sym, subst, ◌∙◌}
use Rattle.std.proofs.Math.Logic.{∥∥₁_elim, ∥∥₁_map}
use Rattle.std.proofs.lemmas.Bool.{lt-ltb}
use Rattle.std.specs.Coded.{coded_bool}
use base.Stored.{Coded-set}
use Rattle.net_model.specs.declared.event.Event.{Event}
use Rattle.net_model.specs.declared.reply.Reply.{Reply}
use Rattle.net_model.specs.Site.{Site}
use Rattle.net_model.specs.World.{Network, World}
use Rattle.net_model.specs.Events.{is_valid_event}
use Rattle.net_model.specs.Action.{Action, Ask, Ok as Fine}
use Rattle.net_model.specs.Step.{step, is_enabled, is_node, is_asked}
use Rattle.declared_site.specs.SiteOf.{site_of}
use Rattle.declared_site.specs.declared.site.Site.{Site as Declared}
use Rattle.world_state.specs.Passed.{ManagerForm, is_up, Post, On, MayAsk, Asked, MayHandle, Handled}
use Rattle.law_base.proofs.Base.{and_both}
use Rattle.law_invariant.proofs.Steps.{step_keeps}
use Rattle.law_locality.proofs.Links.{step_link}
use Rattle.world_state.proofs.Passed.{may_handle, asked, valid_there}
use Rattle.net_serve.specs.Serving.{IsRequestTo, IsServable, TookRequest}
use Rattle.net_serve.proofs.Requests.{asked_too}
use Rattle.disk_model.specs.declared.disk.Disk as Disk
use Rattle.source_devices.specs.declared.entropy.Entropy as Entropy

ask_enabled : (net : Network) (w : World) (v : ℕ) (event : Event) → is_node net v ≡ true → is_asked event ≡ true → is_valid_event net.site v event ≡ true → is_enabled net w (Ask v event Fine) ≡ true
unfolding is_enabled
ask_enabled net w v event here comes valid =
    and_both (is_node net v && is_asked event) (is_valid_event net.site v event) (and_both (is_node net v) (is_asked event) here comes) valid

module _ {K E : Type 0} (disk_says : Disk.Ghosts K) (entropy_says : Entropy.Ghosts E) (site : Declared) (v : ℕ) (post : Post K E) (up : ℕ) (event : Event)
    (request : IsRequestTo (site_of site) v event) where
  abbrev Servable : Post K E → Type 0
  Servable p = IsServable disk_says entropy_says site v p up

  valid : (x : Servable post) → is_valid_event x.net.site v event ≡ true
  valid x = subst (λ (s : Site). is_valid_event s v event ≡ true) (sym x.sited) request.valid

  may_ask : (x : Servable post) → MayAsk disk_says entropy_says x.net x.now v post event up
  may_ask x = record {
    running = x.running;
    stands = x.stands;
    enabled = ask_enabled x.net x.now v event (lt-ltb v x.net.site.nodes x.node) (asked_too event request.request) (valid x);
    links = x.links;
  }

  -- the event that is put to the manager is valid for it
  pub valid_for : ∥ Servable post ∥₁ → (m : ManagerForm K E) → post ≡ On m → is_up m.standing ≡ true → is_valid_event (site_of m.site) m.view.me event ≡ true
  valid_for h m on up_now = ∥∥₁_elim h (Coded-set coded_bool _ _) (λ x. valid_there disk_says entropy_says x.net x.now v m up_now post on x.stands event (valid x))

  module _ (q : Post K E) (reply : Reply)
      (puts : (net : Network) (w : World) (u : ℕ) → MayHandle disk_says entropy_says net w u post event up → Handled disk_says entropy_says net w u event post q reply) where
    -- the turn is the network's action
    asks : (net : Network) (w : World) → MayAsk disk_says entropy_says net w v post event up → Asked disk_says entropy_says net w v event post q reply
    asks net w may = asked disk_says entropy_says net w v event up post q reply may (puts net w v (may_handle disk_says entropy_says net w v event up post may))

    pub took : TookRequest disk_says entropy_says v up post event (event, reply) up q
    took = record { event_is = refl; asked = asks; links = refl }

    goes_on : Servable post → Servable q
    goes_on x =
        let h = asks x.net x.now (may_ask x) in
        let a : Action = Ask v event h.environment in record {
          net = x.net;
          now = (step x.net x.now a).0;
          sited = x.sited;
          node = x.node;
          running = record { network = x.running.network; conserved = step_keeps x.net x.now a x.running.network h.may x.running.conserved; sealing = x.running.sealing };
          stands = h.stands;
          links = λ link below. step_link x.net x.now a link refl ∙ x.links link below;
        }

    pub may_go_on : ∥ Servable post ∥₁ → ∥ Servable q ∥₁
    may_go_on h = ∥∥₁_map h goes_on
