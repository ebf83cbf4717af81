-- What a manager's turn does to the lanes that leave its node.
use Rattle.std.proofs.Common.{◌≡◌, ℕ, ◌+◌, ◌≤◌, Bool, true, false, ◌&&◌, List, [], ◌∷◌, ◌++◌, length, map, refl, sym, ap, subst, ◌∙◌, arith, Some, None}
use Rattle.std.specs.Prelude.{◌==◌, slice_get, count_by, filter}
use Rattle.std.specs.List.{AllByRecursion}
use Rattle.std.proofs.lemmas.List.{length-map}
use Rattle.qkd_base.specs.Lane.{lane_eq, lane_place}
use Rattle.qkd_base.specs.declared.lane.Lane.{Lane}
use Rattle.net_model.specs.declared.event.Event.{Event}
use Rattle.net_model.specs.declared.event.Event.TheVariants.{Plan}
use Rattle.net_model.specs.declared.fact.Fact.{Fact}
use Rattle.net_model.specs.declared.order.Order.{Order}
use Rattle.net_model.specs.declared.payload.Payload.{Payload}
use Rattle.net_model.specs.declared.reply.Reply.{Reply}
use Rattle.net_model.specs.Item.{Item, DataItem, AckItem, payload, data_payload}
use Rattle.net_model.specs.Ledger.{is_burnt}
use Rattle.net_model.specs.Table.{fact_at}
use Rattle.net_model.specs.Site.{Site, sender}
use Rattle.net_model.specs.World.{Network, World, received, planned, needs}
use Rattle.net_model.specs.Events.{is_lane}
use Rattle.net_model.specs.Action.{Environment, Action, Ask, Outcome, Replies}
use Rattle.net_model.specs.Frames.{frame_octets, octets_sent}
use Rattle.net_model.specs.Step.{step, is_enabled}
use Rattle.net_model.specs.Tick.{Emission, Again, New, item_in, ordered}
use Rattle.run_model.specs.Works.{wanted_put}
use Rattle.run_ops.specs.declared.job.Job.{Job}
use Rattle.run_ops.specs.declared.job.Job.TheVariants as jobs
use Rattle.run_ops.specs.Jobs.{is_job}
use Rattle.law_base.proofs.Grow.{Grows}
use Rattle.law_invariant.specs.May.{is_plan}
use Rattle.law_invariant.proofs.Decisions.{plan_is}
use Rattle.law_base.proofs.Lasting.{step_more}
use Rattle.law_invariant.proofs.Orders.{needs-append}
use Rattle.law_locality.specs.Touched.{touches_lane, changes_part, Unclaimed}
use Rattle.law_locality.proofs.LaneParts.{step_part}
use Rattle.law_locality.specs.Sending.{orders_in, IsEmission}
use Rattle.law_parallel.proofs.Planned.{plan_adds}
use Rattle.lane_sender.specs.Lane.{LaneForm}
use Rattle.world_state.specs.Passed.{IsRunning, LaneStands, spelled_wire}
use Rattle.world_state.specs.Changed.{changes_lane}
use Rattle.world_state.proofs.LanesGoOn.{lane_goes_on}
use Rattle.par_managers.specs.Turning.{asked_with, planner}
use Rattle.par_managers.proofs.Turning.{wants_none}
use Rattle.par_lanes.specs.Wants.{bytes_at}
use Rattle.par_managers.proofs.Wants.{IsSpelled, needs_more, bytes_needed}
use Rattle.source_devices.specs.declared.wire.Wire as Wire

grown_payload : (T T' : List Fact) → Grows T T' → (i : Item) (p : Payload) → payload T i ≡ Some p → payload T' i ≡ Some p
grown_payload T T' grows (AckItem n) p h = h
grown_payload T T' grows (DataItem n) p h =
    elim (fact_at T n) as (λ o. fact_at T n ≡ o → data_payload o ≡ Some p → data_payload (fact_at T' n) ≡ Some p) [
      | None ↦ λ e g. cc
      | Some f ↦ λ e g. ap data_payload (grows n f e) ∙ g
    ] refl h

no_planner : (v : ℕ) (event : Event) (reply : Reply) → is_plan event ≡ false → planner (jobs.Ask v event) reply ≡ None
no_planner v Plan reply other = cc
no_planner v _ reply other = refl

-- ---- the lanes

module _ (net : Network) (w : World) (l : Lane) where
  -- a lane of the program that has just what the network's lane has
  whole : LaneForm (List (List ℕ))
  whole =
      record {
        lane = l;
        bytes = octets_sent net w l;
        ledger = record { used = length (w.durable.own l); end = w.durable.lease l; received = received w.durable l; burnt = count_by is_burnt (w.durable.own l) };
        wire = spelled_wire net w l;
      }

  abbrev told_wire : Wire.Ghosts (List (List ℕ))
  told_wire = record { frames = λ wire. Some wire; counted = length; faults = λ wire. 0 }

  whole_stands : LaneStands told_wire net w l whole
  unfolding whole
  whole_stands = record {
    lane = refl;
    bytes = refl;
    received = refl;
    used = refl;
    burnt = refl;
    end = omega arith;
    wire = record { count = length-map (w.wire l) (λ j. frame_octets net w l (slice_get (w.frames l) j)); tells = refl; told = refl };
  }

no_part : (b : Bool) → (b && false) ≡ false
no_part true = refl
no_part false = refl

lane_kept : (s : Site) (l : Lane) (environment : Environment) (job : Job) → changes_lane s (asked_with job environment) l ≡ false
lane_kept s l environment jobs.Nothing = refl
lane_kept s l environment (jobs.Ask node event) = no_part (is_plan event && (sender s l == node))
lane_kept s l environment (jobs.Pass lane number) = refl

-- The lane's lease is no lower, and it claims and receives no byte.
pub record Keeps (l : Lane) (w after : World) : Type 0 where
  pub lease : w.durable.lease l ≤ after.durable.lease l
  pub own : length (after.durable.own l) ≡ length (w.durable.own l)
  pub received' : received after.durable l ≡ received w.durable l

module _ (net : Network) (w : World) (r : IsRunning net w) (job : Job) (environment : Environment) (may : is_enabled net w (asked_with job environment) ≡ true) where
  abbrev after : World
  after = (step net w (asked_with job environment)).0

  pub lane_keeps : (l : Lane) → is_lane net.site l ≡ true → Keeps l w after
  unfolding whole
  lane_keeps l at =
      let stands = lane_goes_on net w r l (told_wire net w l) (asked_with job environment) (whole net w l) at may (lane_kept net.site l environment job) (whole_stands net w l) in
      record { lease = stands.end; own = sym stands.used; received' = sym stands.received }

-- ---- the orders

all_weaker : {A : Type 0} (P Q : A → Type 0) → ((x : A) → P x → Q x) → (xs : List A) → AllByRecursion P xs → AllByRecursion Q xs
all_weaker P Q f [] h = tt
all_weaker P Q f (x ∷ xs) h = (f x h.0, all_weaker P Q f xs h.1)

module _ (net : Network) (w : World) (r : IsRunning net w) where
  abbrev After : Action → World
  After a = (step net w a).0

  -- The planned end of a lane rises at least by the bytes of these orders.
  abbrev Plans : Lane → World → List Emission → Type 0
  Plans l after es = planned w l + bytes_at (lane_place l) es ≤ planned after l

  module _ (l : Lane) (after : World) (grows : Grows w.durable.facts after.durable.facts) (own : length (after.durable.own l) ≡ length (w.durable.own l)) where
    none_planned : after.unclaimed l ≡ w.unclaimed l → Plans l after []
    none_planned same =
        let more = needs_more w.durable.facts after.durable.facts grows (w.unclaimed l) in
        let kept = ap (needs after.durable.facts) same in
        omega (arith, more, kept, own)

    some_planned : (es : List Emission) → AllByRecursion (IsSpelled after.durable.facts) es → after.unclaimed l ≡ w.unclaimed l ++ map ordered (filter (λ (o : Order). lane_eq o.lane l) (orders_in es)) → Plans l after es
    some_planned es spelled behind =
        let more = needs_more w.durable.facts after.durable.facts grows (w.unclaimed l) in
        let all = ap (needs after.durable.facts) behind ∙ needs-append after.durable.facts (w.unclaimed l) (map ordered (filter (λ (o : Order). lane_eq o.lane l) (orders_in es))) in
        let new = bytes_needed after.durable.facts l es spelled in
        omega (arith, more, all, new, own)

  grown_spelled : (v : ℕ) (later : World) → Grows w.durable.facts later.durable.facts → (e : Emission) → IsEmission net w v e → IsSpelled later.durable.facts e
  grown_spelled v later grows (Again again) h = tt
  grown_spelled v later grows (New o) h = grown_payload w.durable.facts later.durable.facts grows (item_in o.payload) o.payload h.spelled

  unclaimed_kept : (environment : Environment) (event : Event) (node : ℕ) (l : Lane) → is_plan event ≡ false → (touches_lane net.site (Ask node event environment) l && changes_part Unclaimed (Ask node event environment)) ≡ false
  unclaimed_kept environment event node l other = ap (λ (b : Bool). (b && (sender net.site l == node)) && b) other

  module _ (environment : Environment) (l : Lane) (at : is_lane net.site l ≡ true) where
    plan_more : (v : ℕ) → is_enabled net w (Ask v Plan environment) ≡ true → Plans l (After (Ask v Plan environment)) (wanted_put (step net w (Ask v Plan environment)).1)
    unfolding step
    plan_more v may =
        let adds = plan_adds net w v r.conserved environment in
        let grows = (step_more net w (Ask v Plan environment)).facts in
        some_planned l (After (Ask v Plan environment)) grows (lane_keeps net w r (jobs.Ask v Plan) environment may l at).own (wanted_put (step net w (Ask v Plan environment)).1)
        (all_weaker (IsEmission net w v) (IsSpelled (After (Ask v Plan environment)).durable.facts) (grown_spelled v (After (Ask v Plan environment)) grows) _ adds.each) (adds.unclaimed l)

    none_more : (job : Job) (reply : Reply) → is_enabled net w (asked_with job environment) ≡ true → wanted_put (Replies reply) ≡ [] →
        (touches_lane net.site (asked_with job environment) l && changes_part Unclaimed (asked_with job environment)) ≡ false → Plans l (After (asked_with job environment)) (wanted_put (Replies reply))
    none_more job reply may none still =
        subst (Plans l (After (asked_with job environment))) (sym none)
        (none_planned l (After (asked_with job environment)) (step_more net w (asked_with job environment)).facts (lane_keeps net w r job environment may l at).own
        (step_part net w l r.network r.conserved Unclaimed (asked_with job environment) may still))

    -- A turn's orders are planned after the earlier ones.
    pub plans_more : (job : Job) (reply : Reply) → is_job net.site job ≡ true → is_enabled net w (asked_with job environment) ≡ true → (step net w (asked_with job environment)).1 ≡ Replies reply →
        Plans l (After (asked_with job environment)) (wanted_put (Replies reply))
    plans_more jobs.Nothing reply fit may said = none_more jobs.Nothing reply may (wants_none net w r.network r.conserved jobs.Nothing environment reply fit refl said) refl
    plans_more (jobs.Pass lane number) reply fit may said = none_more (jobs.Pass lane number) reply may (wants_none net w r.network r.conserved (jobs.Pass lane number) environment reply fit refl said) refl
    plans_more (jobs.Ask v event) reply fit may said =
        elim (is_plan event) as (λ t. is_plan event ≡ t → Plans l (After (Ask v event environment)) (wanted_put (Replies reply))) [
          | true ↦ λ is.
              let plan = plan_is event is in
              subst (λ (x : Event). Plans l (After (Ask v x environment)) (wanted_put (Replies reply))) (sym plan)
              (subst (λ (out : Outcome). Plans l (After (Ask v Plan environment)) (wanted_put out)) (subst (λ (x : Event). (step net w (Ask v x environment)).1 ≡ Replies reply) plan said)
              (plan_more v (subst (λ (x : Event). is_enabled net w (Ask v x environment) ≡ true) plan may)))
          | false ↦ λ other. none_more (jobs.Ask v event) reply may (wants_none net w r.network r.conserved (jobs.Ask v event) environment reply fit (no_planner v event reply other) said) (unclaimed_kept environment event v l other)
        ] refl
