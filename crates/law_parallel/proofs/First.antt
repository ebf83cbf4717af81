-- All claims may come before all puts.
use Rattle.std.proofs.Common.{◌≡◌, ℕ, ◌-◌, true, false, ◌&&◌, ◌||◌, List, [], ◌∷◌, ◌++◌, length, map, refl, sym, ◌∙◌, ap, subst, Option, Some, None}
use Rattle.std.specs.Prelude.{◌==◌, is_some, slice_get, if◌then◌else◌}
use Rattle.qkd_base.specs.declared.lane.Lane.{Lane}
use Rattle.net_model.specs.declared.fact.Fact.{Fact}
use Rattle.net_model.specs.Item.{need}
use Rattle.net_model.specs.World.{Network, World, Allocation, Transmission, Outgoing}
use Rattle.net_model.specs.Premises.{IsNetwork}
use Rattle.net_model.specs.Invariant.{Conserved}
use Rattle.net_model.specs.Events.{is_lane}
use Rattle.net_model.specs.Handle.{frame_at}
use Rattle.net_model.specs.Tick.{Emission, Again, New, ordered}
use Rattle.net_model.specs.Action.{Environment, Action, Allocate, Transmit, Outcome, Put, Unsent, is_no_memory, is_io_fault, is_shown}
use Rattle.net_model.specs.Frames.{allocate, outgoing_of, offset_or_zero, put, transmit_one, transmit}
use Rattle.net_model.specs.Step.{step, is_enabled, IsStep, run, IsRun}
use Rattle.run_model.specs.Outcomes.{put_items}
use Rattle.run_model.specs.Works.{Work, actions_in, done_from}
use Rattle.run_model.specs.Block.{PutDone, payload_size, put_of, puts_of, is_put as took_it}
use Rattle.law_base.proofs.Base.{and_left, and_right, eq_from}
use Rattle.law_base.proofs.Lists.{found_at}
use Rattle.law_locality.proofs.Runs.{first_step, later_steps, run_none, run_one}
use Rattle.law_invariant.proofs.Steps.{step_keeps}
use Rattle.law_parallel.specs.Putting.{Putting, emission_works, one_by_one, emission_claims, claims_of, puts_in, ClaimsComeFirst}
use Rattle.law_parallel.specs.Remaining.{Remains}
use Rattle.law_parallel.proofs.Swaps.{AreClaims, IsReady, ready_past, put_past, runs_past}

-- A waiting frame that is looked up by a number has that number.
found_number : (j : ℕ) (os : List Outgoing) (o : Outgoing) → outgoing_of j os ≡ Some o → o.frame ≡ j
found_number j [] o h = cc
found_number j (x ∷ os) o h =
    elim (x.frame == j) as (λ t. (x.frame == j) ≡ t → (if t then Some x else outgoing_of j os) ≡ Some o → o.frame ≡ j) [
      | true ↦ λ e g. let is : x ≡ o = cc in ap (λ (y : Outgoing). y.frame) (sym is) ∙ eq_from x.frame j e
      | false ↦ λ e g. found_number j os o g
    ] refl h

record MayPut (net : Network) (w : World) (l : Lane) (j : ℕ) : Type 0 where
  o : Outgoing
  a : Allocation
  ready : IsReady net l j o a w

may_put_at : (net : Network) (w : World) → Conserved net w → (l : Lane) (j : ℕ) (o : Option Outgoing) → outgoing_of j (w.outgoing l) ≡ o → is_some o ≡ true → MayPut net w l j
may_put_at net w c l j None found h = cc
may_put_at net w c l j (Some o) found h =
    let at = found_at (λ (x : Outgoing). x.frame == j) (w.outgoing l) o found in
    let placed = (c.wired l).put at.0 o at.1 in
    let number = found_number j (w.outgoing l) o found in
    record { o = o; a = placed.0; ready = record { found = found; number = number; frame = ap (slice_get (w.frames l)) (sym number) ∙ placed.1 } }

may_put : (net : Network) (w : World) → Conserved net w → (l : Lane) (j : ℕ) (environment : Environment) → IsStep net w (Transmit l j environment) → MayPut net w l j
unfolding is_enabled
may_put net w c l j environment h =
    may_put_at net w c l j (outgoing_of j (w.outgoing l)) refl
    (and_right (is_lane net.site l) (is_some (outgoing_of j (w.outgoing l)))
    (and_left (is_lane net.site l && is_some (outgoing_of j (w.outgoing l))) (is_shown environment (step net w (Transmit l j environment)).1) h))

-- What claims leave unchanged.
record IsLater (w x : World) : Type 0 where
  facts : x.durable.facts ≡ w.durable.facts
  wire : x.wire ≡ w.wire

claim_later : (net : Network) (t : Transmission) (w : World) → IsLater w (step net w (Allocate t)).0
unfolding step allocate
claim_later net t w = record { facts = refl; wire = refl }

claims_later : (net : Network) (claims : List Action) → AreClaims claims → (w : World) → IsLater w (run net w claims)
claims_later net [] only w = subst (IsLater w) (sym (run_none net w)) (record { facts = refl; wire = refl })
claims_later net (Allocate t ∷ claims) only w =
    let one = claim_later net t w in
    let rest = claims_later net claims only (step net w (Allocate t)).0 in
    subst (IsLater w) (sym (run_one net w (Allocate t) claims)) (record { facts = rest.facts ∙ one.facts; wire = rest.wire ∙ one.wire })
claims_later net (_ ∷ claims) only w = absurd only

-- The report of a put depends only on a few parts of the world.

module _ (net : Network) (l : Lane) (j : ℕ) (environment : Environment) (place : ℕ) (o : Outgoing) (a : Allocation) where
  abbrev action : Action
  action = Transmit l j environment

  abbrev answer : List ℕ → Outcome
  answer wire = if is_no_memory environment || is_io_fault environment then Unsent (is_no_memory environment) else Put (length wire)

  answered : (w : World) → IsReady net l j o a w → (step net w action).1 ≡ answer (w.wire l)
  unfolding step transmit
  answered w h =
      ap (λ (x : Option Outgoing). (transmit_one net w l environment x).1) h.found ∙
      (elim (is_no_memory environment || is_io_fault environment) as (λ b.
      (if◌then◌else◌ {A = World × Outcome} b (put net w l o (w.wire l) None, Unsent (is_no_memory environment))
      (put net w l o (w.wire l ++ o.frame ∷ []) (Some (length (w.wire l))), Put (length (w.wire l)))).1 ≡
      (if b then Unsent (is_no_memory environment) else Put (length (w.wire l)))) [ true ↦ refl | false ↦ refl ])

  abbrev reported : List Fact → Outcome → List PutDone
  reported facts out =
      record { lane = l; offset = a.offset; place = place; took = took_it out; reported = put_items l a.offset (need facts a.item - 8) out } ∷ []

  reported_is : (w : World) → IsReady net l j o a w → put_of w place action (step net w action).1 ≡ reported w.durable.facts (answer (w.wire l))
  reported_is w h =
      ap (put_of w place action) (answered w h) ∙
      ap (λ (s : Option Allocation). record { lane = l; offset = offset_or_zero s; place = place; took = took_it (answer (w.wire l)); reported = put_items l (offset_or_zero s) (payload_size w s) (answer (w.wire l)) } ∷ []) h.frame

  -- The report is the same after further claims.
  reported_same : (w x : World) → IsLater w x → IsReady net l j o a w → IsReady net l j o a x → put_of x place action (step net x action).1 ≡ put_of w place action (step net w action).1
  reported_same w x later h g =
      reported_is x g ∙ ap (λ (facts : List Fact). reported facts (answer (x.wire l))) later.facts
      ∙ ap (λ (f : Lane → List ℕ). reported w.durable.facts (answer (f l))) later.wire ∙ sym (reported_is w h)

-- One put and the works after it: making their claims first leads to the same world and the same reports.

module _ (net : Network) where
  pub record ComesFirst (w : World) (claims : List Action) (works : List Work) : Type 0 where
    pub same : run net w (actions_in works) ≡ run net w (claims ++ actions_in (puts_in works))
    pub reported : puts_of (done_from net (run net w claims) (puts_in works)) ≡ puts_of (done_from net w works)

  done_put : (w : World) (place : ℕ) (l : Lane) (j : ℕ) (environment : Environment) (works : List Work) →
      puts_of (done_from net w (record { place = place; action = Transmit l j environment } ∷ works)) ≡
      put_of w place (Transmit l j environment) (step net w (Transmit l j environment)).1 ++ puts_of (done_from net (step net w (Transmit l j environment)).0 works)
  unfolding done_from
  done_put w place l j environment works = refl

  after_put : (w : World) (place : ℕ) (l : Lane) (j : ℕ) (environment : Environment) (claims : List Action) (works : List Work) → AreClaims claims → MayPut net w l j →
      ComesFirst (step net w (Transmit l j environment)).0 claims works → ComesFirst w claims (record { place = place; action = Transmit l j environment } ∷ works)
  after_put w place l j environment claims works only may rest =
      let action : Action = Transmit l j environment in
      let claimed : World = run net w claims in
      let ready = ready_past net l j may.o may.a environment claims only w may.ready in
      let past = put_past net l j may.o may.a environment claims only w may.ready in
      record {
        same = run_one net w action (actions_in works) ∙ rest.same ∙ sym (run_one net w action (claims ++ actions_in (puts_in works)))
            ∙ runs_past net l j may.o may.a environment claims (actions_in (puts_in works)) only w may.ready;
        reported = done_put claimed place l j environment (puts_in works)
            ∙ ap (λ (ps : List PutDone). ps ++ puts_of (done_from net (step net claimed action).0 (puts_in works)))
            (reported_same net l j environment place may.o may.a w claimed (claims_later net claims only w) may.ready ready)
            ∙ ap (λ (x : World). put_of w place action (step net w action).1 ++ puts_of (done_from net x (puts_in works))) (sym past)
            ∙ ap (λ (ps : List PutDone). put_of w place action (step net w action).1 ++ ps) rest.reported
            ∙ sym (done_put w place l j environment works);
      }

  after_claim : (w : World) (place : ℕ) (t : Transmission) (claims : List Action) (works : List Work) →
      ComesFirst (step net w (Allocate t)).0 claims works → ComesFirst w (Allocate t ∷ claims) (record { place = place; action = Allocate t } ∷ works)
  unfolding run done_from
  after_claim w place t claims works rest = record { same = rest.same; reported = rest.reported }

  are_claims : (ps : List Putting) → AreClaims (claims_of ps)
  are_claims [] = tt
  are_claims (p ∷ ps) = elim p.emission as (λ e. AreClaims (emission_claims e ++ claims_of ps)) [
    | Again r ↦ are_claims ps
    | New o ↦ are_claims ps
  ]

  module _ (network : IsNetwork net) where
    kept : (w : World) (x : Action) (rest : List Action) → Conserved net w → IsRun net w (x ∷ rest) → Conserved net (step net w x).0
    kept w x rest c h = step_keeps net w x network (first_step net w x rest h) c

    -- The works of one frame and then those of others.

    abbrev then' : World → Putting → (World → List Work) → List Work
    then' w p others = let now = emission_works w p.place p.answer p.emission in now ++ others (run net w (actions_in now))

    first_of_one : (place : ℕ) (answer : Environment) (e : Emission) (claims : List Action) (others : World → List Work) → AreClaims claims →
        ((x : World) → Conserved net x → IsRun net x (actions_in (others x)) → ComesFirst x claims (others x)) → (w : World) → Conserved net w →
        IsRun net w (actions_in (then' w (record { place = place; emission = e; answer = answer }) others)) →
        ComesFirst w (emission_claims e ++ claims) (then' w (record { place = place; emission = e; answer = answer }) others)
    unfolding run
    first_of_one place answer (Again r) claims others only h w c runs =
        let j : ℕ = frame_at (w.frames r.lane) r.offset in
        let action : Action = Transmit r.lane j answer in
        let next : World = (step net w action).0 in
        after_put w place r.lane j answer claims (others next) only (may_put net w c r.lane j answer (first_step net w action _ runs))
        (h next (kept w action _ c runs) (later_steps net w action _ runs))
    first_of_one place answer (New o) claims others only h w c runs =
        let j : ℕ = length (w.frames o.lane) in
        let claim : Action = Allocate (ordered o) in
        let action : Action = Transmit o.lane j answer in
        let claimed : World = (step net w claim).0 in
        let next : World = (step net claimed action).0 in
        let d : Conserved net claimed = kept w claim _ c runs in
        let later = later_steps net w claim _ runs in
        after_claim w place (ordered o) claims (record { place = place; action = action } ∷ others next)
        (after_put claimed place o.lane j answer claims (others next) only (may_put net claimed d o.lane j answer (first_step net claimed action _ later))
        (h next (kept claimed action _ d later) (later_steps net claimed action _ later)))

    comes_first : (ps : List Putting) (w : World) → Conserved net w → IsRun net w (actions_in (one_by_one net w ps)) → ComesFirst w (claims_of ps) (one_by_one net w ps)
    unfolding one_by_one
    comes_first [] w c runs = record { same = refl; reported = ap (λ (x : World). puts_of (done_from net x [])) (run_none net w) }
    comes_first (p ∷ ps) w c runs =
        first_of_one p.place p.answer p.emission (claims_of ps) (λ x. one_by_one net x ps) (are_claims ps) (comes_first ps) w c runs

pub claims_come_first : (net : Network) (w : World) (ps : List Putting) → IsNetwork net → Conserved net w → Remains net w (map (λ (p : Putting). p.emission) ps) →
    IsRun net w (actions_in (one_by_one net w ps)) → ClaimsComeFirst net w ps
claims_come_first net w ps network c remains runs = let r = comes_first net network ps w c runs in record { same = r.same; reported = r.reported }
