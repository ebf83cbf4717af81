-- Handling an event changes only the manager that handles it.
use Rattle.std.proofs.Common.{◌≡◌, ℕ, Bool, true, false, ◌&&◌, not, refl, sym, ap, subst, ◌∙◌, Some}
use Rattle.std.specs.Prelude.{◌==◌, nat_lt, slice_get}
use Rattle.net_model.specs.declared.event.Event.{Event}
use Rattle.net_model.specs.declared.event.Event.TheVariants.{Plan}
use Rattle.net_model.specs.Site.{Site, sender}
use Rattle.net_model.specs.World.{Network, World}
use Rattle.net_model.specs.Events.{is_valid_event}
use Rattle.net_model.specs.Faults.{is_random_fault}
use Rattle.net_model.specs.Action.{Environment, Ask, Ok, Replies, is_io_fault, is_entropy_fault}
use Rattle.net_model.specs.declared.reply.Reply.{Reply}
use Rattle.declared_site.specs.SiteOf.{site_of}
use Rattle.world_nodes.specs.Passed.{Post}
use Rattle.run_ops.specs.Acting.{IsReady, Does}
use Rattle.world_nodes.specs.Asking.{MayAsk, Asked}
use Rattle.world_nodes.proofs.Counted.{here_too}
use Rattle.world_state.specs.Stands.{Stands}
use Rattle.world_state.specs.Tallied.{Tallied}
use Rattle.world_state.specs.declared.state.State.{State}
use Rattle.net_model.specs.Step.{is_asked, is_enabled}
use Rattle.law_base.proofs.Base.{and_left, and_right, eq_from, eq_same, not_false, was_not}
use Rattle.law_invariant.specs.May.{is_plan}
use Rattle.run_ops.specs.Fitting.{is_fit}
use Rattle.run_ops.specs.Fitting as fitting
use Rattle.world_state.proofs.Changes.{OnePost}
use Rattle.world_state.proofs.OnePost.{ChangesPost, ChangesOne, happened}
use Rattle.world_state.proofs.OneTallied.{CountsOne, CountsNoOther}
use Rattle.world_state.specs.Outside.{Outside}

no_part : (b : Bool) → (b && false) ≡ false
no_part true = refl
no_part false = refl

same_plan : (event : Event) → fitting.is_plan event ≡ is_plan event
same_plan Plan = refl
same_plan _ = refl

-- If asking for an event fits the site, the event is no plan.

pub fit_no_plan : (s : Site) (v : ℕ) (event : Event) → is_fit s (Ask v event Ok) ≡ true → is_plan event ≡ false
fit_no_plan s v event fit =
    sym (same_plan event) ∙ was_not (fitting.is_plan event) (and_right (nat_lt v s.nodes && is_asked event) (not (fitting.is_plan event)) (and_left (nat_lt v s.nodes && is_asked event && not (fitting.is_plan event)) (is_valid_event s v event) fit))

both : (a b : Bool) → a ≡ true → b ≡ true → (a && b) ≡ true
both true b h k = k
both false b h k = cc

pub fit_enabled : (net : Network) (w : World) (v : ℕ) (event : Event) → is_fit net.site (Ask v event Ok) ≡ true → is_enabled net w (Ask v event Ok) ≡ true
unfolding is_enabled
fit_enabled net w v event fit =
    let s = net.site in
    let three = and_left (nat_lt v s.nodes && is_asked event && not (fitting.is_plan event)) (is_valid_event s v event) fit in
    let two = and_left (nat_lt v s.nodes && is_asked event) (not (fitting.is_plan event)) three in
    both (nat_lt v s.nodes && is_asked event) (is_valid_event s v event) two (and_right (nat_lt v s.nodes && is_asked event && not (fitting.is_plan event)) (is_valid_event s v event) fit)

pub elsewhere : (v u : ℕ) → (u ≡ v → ⊥) → (v == u) ≡ false
elsewhere v u other = not_false (v == u) (λ e. other (sym (eq_from v u e)))

pub asks_post : (s : Site) (v : ℕ) (event : Event) (environment : Environment) → ChangesPost s (Ask v event environment) v
asks_post s v event environment = record { nodes = λ u other. elsewhere v u other; lanes = λ l. no_part (is_plan event && (sender s l == v)); links = λ link. refl }

pub asks_one : (s : Site) (v : ℕ) (event : Event) (environment : Environment) → is_plan event ≡ false → ChangesOne s (Ask v event environment) v
asks_one s v event environment none = let post = asks_post s v event environment in record { nodes = post.nodes; lanes = post.lanes; links = post.links; sends = none }

pub asks_counted : (s : Site) (v : ℕ) (event : Event) (environment : Environment) → CountsOne s (Ask v event environment) v (is_io_fault environment) (is_random_fault v (Ask v event environment))
asks_counted s v event environment = record {
  disk = here_too (v == v) (is_io_fault environment) (eq_same v);
  entropy = refl;
  armed = λ u. refl;
  disks = λ u other. ap (λ (b : Bool). b && is_io_fault environment) (elsewhere v u other);
  entropies = λ u other. ap (λ (b : Bool). b && is_entropy_fault environment) (elsewhere v u other);
}

pub asks_no_other : (v : ℕ) (event : Event) (environment : Environment) → CountsNoOther (Ask v event environment)
asks_no_other v event environment = record { devices = λ link. refl; wires = λ l. refl }

module _ {K Q E X : Type 0} (outside : Outside K Q E X) (old : State K Q E X) (net : Network) (w : World) (v : ℕ) (event : Event)
    (ready : IsReady (Stands outside) old net w) (fit : is_fit (site_of old.site) (Ask v event Ok) ≡ true) (p : Post K E)
    (there : slice_get old.posts.items v ≡ Some p) where
  here : is_fit net.site (Ask v event Ok) ≡ true
  here = subst (λ (s : Site). is_fit s (Ask v event Ok) ≡ true) (sym ready.stands.sited) fit

  pub may_ask : MayAsk outside.disk outside.entropy net w v p event old.up
  may_ask = record { running = ready.stands.running; stands = ready.stands.posts v p there; enabled = fit_enabled net w v event here; links = ready.stands.up }

  pub asked_done : (new : State K Q E X) (q : Post K E) (reply : Reply) → OnePost old new v p q →
      Asked outside.disk outside.entropy net w v event p q reply →
      Does (Stands outside) (Tallied outside) old new net w (Ask v event Ok) (Replies reply)
  asked_done new q reply change asked =
      happened outside old new net w v p q change ready (λ (environment : Environment). Ask v event environment)
      (Ask v event Ok) (Replies reply) (λ environment. asks_one net.site v event environment (fit_no_plan net.site v event here)) (asks_counted net.site v event) (asks_no_other v event) (λ environment. refl) asked
