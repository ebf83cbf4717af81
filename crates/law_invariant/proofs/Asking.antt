-- Handing an event to a manager keeps the conserved properties.
use Rattle.std.proofs.Common.{◌≡◌, ℕ, zero, suc, ◌+◌, ◌<◌, true, false, ◌&&◌, List, [], ◌∷◌, length, refl, sym, ◌∙◌, ap, subst, arith, Some, ◌⊎◌, inl, inr}
use Rattle.std.specs.Prelude.{slice_get}
use Rattle.std.proofs.lemmas.Bool.{ltb-true}
use Rattle.qkd_base.specs.Family.{number_set}
use Rattle.net_model.specs.declared.event.Event.{Event}
use Rattle.net_model.specs.declared.event.Event.TheVariants.{Plan}
use Rattle.net_model.specs.declared.fact.Fact.{Fact}
use Rattle.net_model.specs.declared.record.Record.{Record}
use Rattle.net_model.specs.declared.record.Record.TheVariants.{Learned}
use Rattle.net_model.specs.Table.{bytes_of, name_of, origin, is_secret, fact_at}
use Rattle.net_model.specs.Premises.{IsNetwork}
use Rattle.net_model.specs.OctetSequence.{octets_from}
use Rattle.net_model.specs.Site.{Site}
use Rattle.net_model.specs.World.{Network, World, Durable}
use Rattle.net_model.specs.Needed.{view_of}
use Rattle.net_model.specs.Records.{apply_record}
use Rattle.net_model.specs.Doubt.{MayApply, MayReplay}
use Rattle.net_model.specs.Drawn.{IsDrawn}
use Rattle.net_model.specs.Plan.{plan}
use Rattle.net_model.specs.Decision.{Effect, Decision, Refuses, Does}
use Rattle.net_model.specs.Decide.{decide, random_need}
use Rattle.net_model.specs.Events.{is_valid_event}
use Rattle.net_model.specs.Invariant.{Conserved}
use Rattle.net_model.specs.Action.{Environment, Ask}
use Rattle.net_model.specs.Handle.{commit, handle}
use Rattle.net_model.specs.Step.{is_node, is_asked, is_enabled}
use Rattle.law_base.proofs.Base.{and_left, and_right, number_set_same}
use Rattle.law_base.proofs.Growing.{apply_cases}
use Rattle.law_invariant.specs.May.{MayDecide, is_plan, decided}
use Rattle.law_invariant.proofs.Decisions.{event_may, plan_is}
use Rattle.law_base.proofs.Growth.{volatile_stays}
use Rattle.law_invariant.proofs.Orders.{plan_may, plan_fits}
use Rattle.law_invariant.proofs.Planning.{plan_volatile, plan_wired, plan_posted}
use Rattle.law_invariant.proofs.Effects.{MayTake, IsDrawnOrReceived, commit_more}
use Rattle.law_invariant.proofs.Deciding.{MayResolve, handle_keeps, plain, plain_takes}
use Rattle.law_invariant.proofs.Draws.{IsCut, Draws, DecidesDrawn, event_draws}

-- A fact that a node may learn is in the table or was made by the node.

first_origin : (s : Site) (d : Durable) (v : ℕ) (f : Fact) → MayApply s d v (Learned f) → (fact_at d.facts (name_of f) ≡ Some f) ⊎ (origin f ≡ v)
first_origin s d v f m = elim m.1 [ inl came ↦ inl came.there | inr made ↦ inr made.starts ]

learned_origin : (s : Site) (d : Durable) (v : ℕ) (rs : List Record) → MayReplay s d v rs → (n : ℕ) (f : Fact) → slice_get rs n ≡ Some (Learned f) →
    (fact_at d.facts (name_of f) ≡ Some f) ⊎ (origin f ≡ v)
learned_origin s d v [] m n f h = cc
learned_origin s d v (r ∷ rs) m zero f h =
    let is : r ≡ Learned f = cc in first_origin s d v f (subst (λ (x : Record). MayApply s d v x) is m.0)
learned_origin s d v (r ∷ rs) m (suc n) f h = elim (learned_origin s (apply_record s v r d) v rs m.1 n f h) [
  | inl there ↦ elim (apply_cases s v r d m.0 (name_of f) f there) [
    | inl old ↦ inl old
    | inr is ↦ first_origin s d v f (subst (λ (x : Record). MayApply s d v x) is m.0)
  ]
  | inr mine ↦ inr mine
]

module _ (net : Network) (w : World) (network : IsNetwork net) (c : Conserved net w) (v : ℕ) where
  -- Bytes that are cut from the octets drawn for the event count as drawn.
  cut_drawn : (octets : ℕ) (f : Fact) → origin f ≡ v → IsCut (net.entropy v).octet (w.drawn v + octets) (bytes_of f) →
      IsDrawn net (record w { drawn = number_set w.drawn v (w.drawn v + octets) }) f
  cut_drawn octets f at x =
      record {
        place = x.place;
        bytes = x.is ∙ ap (λ (u : ℕ). octets_from (net.entropy u).octet x.place (length (bytes_of f))) (sym at);
        within = let e = ap (number_set w.drawn v (w.drawn v + octets)) at ∙ number_set_same w.drawn v (w.drawn v + octets) in omega (arith, e, x.within);
      }

  drawn_or_received : (octets : ℕ) (batch : List Record) → MayReplay net.site w.durable v batch → Draws (net.entropy v).octet (w.drawn v + octets) batch →
      (n : ℕ) (f : Fact) → slice_get batch n ≡ Some (Learned f) → is_secret f ≡ true → IsDrawnOrReceived net w v octets f
  drawn_or_received octets batch may draws n f at secret = elim (learned_origin net.site w.durable v batch may n f at) [
    | inl came ↦ inl came
    | inr mine ↦ inr (cut_drawn octets f mine (draws n f at secret))
  ]

  -- The effect of an event that isn't a plan may take place.
  decided_takes : (octets : ℕ) (x : Decision) → MayDecide net w v x → DecidesDrawn (net.entropy v).octet (w.drawn v + octets) x → MayResolve net w v octets x
  decided_takes octets (Refuses reply) may draws = tt
  decided_takes octets (Does e) may draws = λ numbered.
      let same : plain net w v e.batch e.reply ≡ e =
      λ i. record { batch = e.batch; volatile = sym may.volatile i; orders = sym may.orders i; repeats = sym may.repeats i; reply = e.reply } in
      subst (λ (x : Effect). MayTake net w v octets x) same
      (plain_takes net w network c v octets e.batch e.reply (may.batch numbered) (drawn_or_received octets e.batch (may.batch numbered) draws))

  draws : (event : Event) → is_asked event ≡ true → DecidesDrawn (net.entropy v).octet (w.drawn v + random_need (view_of net w v) event) (decided net w v event)
  draws event asked = event_draws net.site net.sealing w.link_up (view_of net w v) (net.entropy v).octet (w.drawn v) event asked

  plan_takes : DecidesDrawn (net.entropy v).octet (w.drawn v + 0) (Does (plan net.site w.link_up (view_of net w v))) → MayTake net w v 0 (plan net.site w.link_up (view_of net w v))
  plan_takes drawn =
      let e : Effect = plan net.site w.link_up (view_of net w v) in
      record {
        batch = plan_may net w v c;
        orders = plan_fits net w v c;
        posted = plan_posted net w v c;
        wired = plan_wired net w v c;
        volatile = volatile_stays net w network c (commit net.site w v 0 e) (commit_more net w v 0 e) v e.volatile (plan_volatile net w v c);
        drawn = drawn_or_received 0 e.batch (plan_may net w v c) drawn;
      }

  plan_resolves : MayResolve net w v (random_need (view_of net w v) Plan) (decided net w v Plan)
  unfolding decide random_need
  plan_resolves numbered = plan_takes (draws Plan refl)

  event_resolves : (event : Event) → v < net.site.nodes → is_asked event ≡ true → is_valid_event net.site v event ≡ true →
      MayResolve net w v (random_need (view_of net w v) event) (decided net w v event)
  event_resolves event here asked valid = elim (is_plan event) as (λ t. is_plan event ≡ t → MayResolve net w v (random_need (view_of net w v) event) (decided net w v event)) [
    | true ↦ λ is. subst (λ (x : Event). MayResolve net w v (random_need (view_of net w v) x) (decided net w v x)) (sym (plan_is event is)) plan_resolves
    | false ↦ λ other. decided_takes (random_need (view_of net w v) event) (decided net w v event) (event_may net w v event network c here asked other valid) (draws event asked)
  ] refl

  pub ask_keeps : (event : Event) (environment : Environment) → is_enabled net w (Ask v event environment) ≡ true → Conserved net (handle net w v event environment).0
  unfolding is_enabled
  ask_keeps event environment may =
      let prefix = and_left (is_node net v && is_asked event) (is_valid_event net.site v event) may in
      handle_keeps net w network c v event environment (λ up.
      event_resolves event (ltb-true v net.site.nodes (and_left (is_node net v) (is_asked event) prefix)) (and_right (is_node net v) (is_asked event) prefix)
      (and_right (is_node net v && is_asked event) (is_valid_event net.site v event) may))
