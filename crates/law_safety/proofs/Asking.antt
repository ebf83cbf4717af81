-- Events keep the places of keys: an event either draws nothing, or cuts its keys from the octets that it draws.
use Rattle.std.proofs.Common.{◌≡◌, ℕ, zero, suc, ◌+◌, ◌<◌, true, false, ◌&&◌, List, refl, sym, subst, arith, inl, inr}
use Rattle.std.specs.List.{list_all}
use Rattle.std.proofs.lemmas.Bool.{ltb-true}
use Rattle.net_model.specs.declared.event.Event.{Event}
use Rattle.net_model.specs.declared.event.Event.TheVariants.{Plan}
use Rattle.net_model.specs.Premises.{IsNetwork}
use Rattle.net_model.specs.OctetSequence.{octets_from}
use Rattle.net_model.specs.World.{Network, World}
use Rattle.net_model.specs.View.{View}
use Rattle.net_model.specs.Needed.{view_of}
use Rattle.net_model.specs.Doubt.{MayReplay}
use Rattle.net_model.specs.Decision.{Decision, Refuses, Does, last_count}
use Rattle.net_model.specs.Decide.{decide, random_need}
use Rattle.net_model.specs.Events.{is_valid_event}
use Rattle.net_model.specs.Invariant.{Conserved}
use Rattle.net_model.specs.Action.{Environment, Ask}
use Rattle.net_model.specs.Handle.{is_numbered, handle}
use Rattle.net_model.specs.Step.{is_node, is_asked, is_enabled}
use Rattle.law_base.proofs.Base.{and_left, and_right}
use Rattle.law_base.proofs.Seen.{view_me}
use Rattle.law_invariant.specs.May.{MayDecide, is_plan, decided}
use Rattle.law_invariant.proofs.Decisions.{event_may, plan_is}
use Rattle.law_invariant.proofs.Orders.{plan_may}
use Rattle.law_invariant.proofs.Draws.{DecidesDrawn, event_draws}
use Rattle.law_invariant.proofs.Cuts.{DecidesCut, event_cuts}
use Rattle.law_safety.proofs.Names.{learned_own, formed_size, last}
use Rattle.law_safety.proofs.Effects.{AreLaid, MayResolve, handle_lays}

nothing_drawn : (octet : ℕ → ℕ) (a b n : ℕ) → n ≡ 0 → octets_from octet a n ≡ octets_from octet b n
unfolding octets_from
nothing_drawn octet a b zero e = refl
nothing_drawn octet a b (suc n) e = absurd (omega (arith, e))

module _ (net : Network) (w : World) (network : IsNetwork net) (c : Conserved net w) (v : ℕ) where
  abbrev see : View
  see = view_of net w v

  abbrev octet : ℕ → ℕ
  octet = (net.entropy v).octet

  -- If the decision has an effect, its batch is permitted.
  abbrev Replays : Decision → Type 0
  Replays (Refuses reply) = Unit {0}
  Replays (Does e) = list_all is_numbered e.batch ≡ true → MayReplay net.site w.durable v e.batch

  decided_replays : (x : Decision) → MayDecide net w v x → Replays x
  decided_replays (Refuses reply) may = tt
  decided_replays (Does e) may = may.batch

  plan_replays : Replays (decided net w v Plan)
  unfolding decide random_need
  plan_replays numbered = plan_may net w v c

  event_replays : (event : Event) → v < net.site.nodes → is_asked event ≡ true → is_valid_event net.site v event ≡ true → Replays (decided net w v event)
  event_replays event here asked valid = elim (is_plan event) as (λ t. is_plan event ≡ t → Replays (decided net w v event)) [
    | true ↦ λ is. subst (λ (x : Event). Replays (decided net w v x)) (sym (plan_is event is)) plan_replays
    | false ↦ λ other. decided_replays (decided net w v event) (event_may net w v event network c here asked other valid)
  ] refl

  -- An event that draws nothing makes no secret fact.
  idle_resolves : (octets : ℕ) (x : Decision) → Replays x → DecidesDrawn octet 0 x → MayResolve net w c v octets x
  idle_resolves octets (Refuses reply) may drawn = tt
  idle_resolves octets (Does e) may drawn = λ numbered.
      record {
        batch = may numbered;
        secrets = inl (λ k f at secret. elim (learned_own net.site w.durable v e.batch (may numbered) k f at) [
          | inl came ↦ came
          | inr own ↦
              let cut = drawn k f at secret in
              let none = cut.within in
              let some = formed_size f own.formed secret in
              absurd (omega (arith, none, some))
        ]);
      }

  idle_drawn : (event : Event) → is_asked event ≡ true → random_need see event ≡ 0 → DecidesDrawn octet 0 (decided net w v event)
  idle_drawn event asked none =
      let from_zero : DecidesDrawn octet (0 + random_need see event) (decide net.site net.sealing w.link_up see (octets_from octet 0 (random_need see event)) event) =
      event_draws net.site net.sealing w.link_up see octet 0 event asked in
      let limit : 0 + random_need see event ≡ 0 = omega (arith, none) in
      subst (λ (random : List ℕ). DecidesDrawn octet 0 (decide net.site net.sealing w.link_up see random event)) (nothing_drawn octet 0 (w.drawn v) (random_need see event) none)
      (subst (λ (k : ℕ). DecidesDrawn octet k (decide net.site net.sealing w.link_up see (octets_from octet 0 (random_need see event)) event)) limit from_zero)

  cut_resolves : (octets : ℕ) (x : Decision) → Replays x → DecidesCut octet v (last net w c v) (w.drawn v) (w.drawn v + octets) x → MayResolve net w c v octets x
  cut_resolves octets (Refuses reply) may cut = tt
  cut_resolves octets (Does e) may cut = λ numbered. record { batch = may numbered; secrets = inr cut }

  event_resolves : (event : Event) → is_asked event ≡ true → Replays (decided net w v event) → MayResolve net w c v (random_need see event) (decided net w v event)
  event_resolves event asked may = elim (event_cuts net.site net.sealing w.link_up see octet (w.drawn v) event asked) [
    | inl none ↦ idle_resolves (random_need see event) (decided net w v event) may (idle_drawn event asked none)
    | inr cut ↦ cut_resolves (random_need see event) (decided net w v event) may
        (subst (λ (u : ℕ). DecidesCut octet u (last_count u see.facts + 0) (w.drawn v) (w.drawn v + random_need see event) (decided net w v event)) (view_me net w v) cut)
  ]

  pub ask_lays : AreLaid net w → (event : Event) (environment : Environment) → is_enabled net w (Ask v event environment) ≡ true → AreLaid net (handle net w v event environment).0
  unfolding is_enabled
  ask_lays laid event environment may =
      let prefix = and_left (is_node net v && is_asked event) (is_valid_event net.site v event) may in
      let asked = and_right (is_node net v) (is_asked event) prefix in
      handle_lays net w c v laid event environment (λ up.
      event_resolves event asked
      (event_replays event (ltb-true v net.site.nodes (and_left (is_node net v) (is_asked event) prefix)) asked
      (and_right (is_node net v && is_asked event) (is_valid_event net.site v event) may)))
