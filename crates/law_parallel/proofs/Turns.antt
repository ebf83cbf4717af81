-- After the turns of managers, just the frames that their plans order are still to be sent.
use Rattle.std.proofs.Common.{◌≡◌, ℕ, Bool, true, false, ◌&&◌, List, [], ◌∷◌, ◌++◌, map, refl, sym, ◌∙◌, ap, subst, append_assoc, append-nil}
use Rattle.std.specs.Prelude.{◌==◌}
use Rattle.std.specs.List.{flat_map, AllByRecursion}
use Rattle.std.proofs.lemmas.List.{map-append}
use Rattle.std.proofs.lemmas.List.Elements.{filter-append}
use Rattle.qkd_base.specs.Lane.{lane_eq}
use Rattle.qkd_base.specs.declared.lane.Lane.{Lane}
use Rattle.net_model.specs.declared.event.Event.{Event}
use Rattle.net_model.specs.declared.order.Order.{Order}
use Rattle.net_model.specs.declared.repeat.Repeat.{Repeat}
use Rattle.net_model.specs.Site.{sender}
use Rattle.net_model.specs.World.{Network, World, Allocation, Transmission, Outgoing}
use Rattle.net_model.specs.Premises.{IsNetwork}
use Rattle.net_model.specs.Invariant.{Conserved}
use Rattle.net_model.specs.BlockOrder.{is_block_event, is_turn_of}
use Rattle.net_model.specs.Tick.{Emission, ordered}
use Rattle.net_model.specs.Action.{Environment, Action, Ask, Deliver, is_shown, environment_of}
use Rattle.net_model.specs.Frames.{deliver}
use Rattle.net_model.specs.Handle.{handle}
use Rattle.net_model.specs.Step.{step, is_enabled, IsStep, run, IsRun}
use Rattle.run_model.specs.Works.{Work, Done, actions_in, done_from, wanted_put}
use Rattle.law_base.proofs.Base.{and_left, and_right, eq_from}
use Rattle.law_invariant.specs.May.{is_plan}
use Rattle.law_invariant.proofs.Decisions.{plan_is}
use Rattle.law_base.proofs.Lists.{all_both, all_kept}
use Rattle.law_base.proofs.Lasting.{step_more}
use Rattle.law_locality.proofs.Runs.{first_step, later_steps, run_none, run_one}
use Rattle.law_invariant.proofs.Steps.{step_keeps}
use Rattle.law_locality.specs.Touched.{LaneStays}
use Rattle.law_locality.proofs.LaneSteps.{step_lane}
use Rattle.law_locality.specs.Quiet.{IsQuiet}
use Rattle.law_locality.specs.Sending.{orders_in, repeats_in, repeated}
use Rattle.law_locality.proofs.Lists.{map_kept, on}
use Rattle.law_parallel.specs.Putting.{lane_of, wanted_by}
use Rattle.law_parallel.specs.Remaining.{Remains, AreTheSame, AreTurns}
use Rattle.law_parallel.proofs.Each.{IsOfSender, all_of_sender, all_stay}
use Rattle.law_parallel.proofs.Lists.{orders_in-append, repeats_in-append, orders_on, repeats_on_lane, all_by_lane}
use Rattle.law_parallel.proofs.Replies.{event_none, delivery_none}
use Rattle.law_parallel.proofs.Planned.{Adds, adds_none, plan_adds}

-- Lemmas on one turn.

module _ (net : Network) (w : World) (network : IsNetwork net) (c : Conserved net w) where
  -- Lemmas on an event that isn't a plan.
  other_adds : (v u : ℕ) (event : Event) (environment : Environment) → is_block_event event ≡ true → is_plan event ≡ false →
      is_enabled net w (Ask u event environment) ≡ true → Adds net w v (step net w (Ask u event environment))
  unfolding step
  other_adds v u event environment turn other may =
      let stays : (l : Lane) → LaneStays l w (step net w (Ask u event environment)).0 = λ l.
      step_lane net w l network c (Ask u event environment) may (ap (λ (b : Bool). b && (sender net.site l == u)) other) in
      adds_none net w v (handle net w u event environment) (event_none net w u event environment turn other) (λ l. (stays l).frames) (λ l. (stays l).unclaimed) (λ l. (stays l).outgoing)

  asked_adds : (v : ℕ) (event : Event) (environment : Environment) → is_block_event event ≡ true → is_enabled net w (Ask v event environment) ≡ true →
      Adds net w v (step net w (Ask v event environment))
  unfolding step
  asked_adds v event environment turn may =
      elim (is_plan event) as (λ t. is_plan event ≡ t → Adds net w v (handle net w v event environment)) [
        | true ↦ λ is. subst (λ (x : Event). Adds net w v (handle net w v x environment)) (sym (plan_is event is)) (plan_adds net w v c environment)
        | false ↦ λ other. other_adds v v event environment turn other may
      ] refl

  delivered_adds : (v : ℕ) (k : Lane) (number : ℕ) (environment : Environment) → is_enabled net w (Deliver k number environment) ≡ true →
      Adds net w v (step net w (Deliver k number environment))
  unfolding step
  delivered_adds v k number environment may =
      let stays : (l : Lane) → LaneStays l w (step net w (Deliver k number environment)).0 = λ l. step_lane net w l network c (Deliver k number environment) may refl in
      adds_none net w v (deliver net w k number environment) (delivery_none net w k number environment) (λ l. (stays l).frames) (λ l. (stays l).unclaimed) (λ l. (stays l).outgoing)

  turn_adds : (v : ℕ) (a : Action) → is_turn_of net.site v a ≡ true → is_enabled net w a ≡ true → Adds net w v (step net w a)
  turn_adds v (Ask u event environment) turn may =
      let is : u ≡ v = eq_from u v (and_left (u == v) (is_block_event event) turn) in
      subst (λ (n : ℕ). Adds net w v (step net w (Ask n event environment))) (sym is)
      (asked_adds v event environment (and_right (u == v) (is_block_event event) turn) (subst (λ (n : ℕ). is_enabled net w (Ask n event environment) ≡ true) is may))
  turn_adds v (Deliver k number environment) turn may = delivered_adds v k number environment may
  turn_adds v _ turn may = cc

-- Lemmas on what waited before, followed by what the turn adds.

module _ (net : Network) (w : World) (network : IsNetwork net) (c : Conserved net w) (es : List Emission) (s : Remains net w es) (a : Action) where
  abbrev new : World
  new = (step net w a).0

  abbrev more : List Emission
  more = wanted_put (step net w a).1

  abbrev orders_at : Lane → List Emission → List Transmission
  orders_at l xs = map ordered (on (λ (o : Order). o.lane) l (orders_in xs))

  abbrev repeats_at : List Allocation → Lane → List Emission → List Outgoing
  repeats_at frames l xs = map (repeated frames) (on (λ (r : Repeat). r.lane) l (repeats_in xs))

  orders_both : (l : Lane) (xs ys : List Emission) → orders_at l (xs ++ ys) ≡ orders_at l xs ++ orders_at l ys
  orders_both l xs ys =
      ap (λ (os : List Order). map ordered (on (λ (o : Order). o.lane) l os)) (orders_in-append xs ys)
      ∙ ap (map ordered) (filter-append (λ (o : Order). lane_eq o.lane l) (orders_in xs) (orders_in ys)) ∙ map-append ordered (on (λ (o : Order). o.lane) l (orders_in xs)) _

  repeats_both : (frames : List Allocation) (l : Lane) (xs ys : List Emission) → repeats_at frames l (xs ++ ys) ≡ repeats_at frames l xs ++ repeats_at frames l ys
  repeats_both frames l xs ys =
      ap (λ (rs : List Repeat). map (repeated frames) (on (λ (r : Repeat). r.lane) l rs)) (repeats_in-append xs ys)
      ∙ ap (map (repeated frames)) (filter-append (λ (r : Repeat). lane_eq r.lane l) (repeats_in xs) (repeats_in ys))
      ∙ map-append (repeated frames) (on (λ (r : Repeat). r.lane) l (repeats_in xs)) _

  remains_more : (v : ℕ) → Adds net w v (step net w a) → Remains net new (es ++ more)
  remains_more v h = record {
    each = all_stay net w network c new (step_more net w a) (es ++ more)
        (all_both (IsOfSender net w) es more s.each (all_of_sender net w v more h.each));
    unclaimed = λ l. h.unclaimed l ∙ ap (λ (ts : List Transmission). ts ++ orders_at l more) (s.unclaimed l) ∙ sym (orders_both l es more);
    outgoing = λ l. h.outgoing l ∙ ap (λ (os : List Outgoing). os ++ repeats_at (w.frames l) l more) (s.outgoing l) ∙ sym (repeats_both (w.frames l) l es more)
        ∙ ap (λ (frames : List Allocation). repeats_at frames l (es ++ more)) (sym (h.frames l));
  }

-- Lemmas on several turns in sequence.

-- The frames that the plans of these turns order.
abbrev emitted : List Done → List Emission
emitted done = flat_map (λ (d : Done). wanted_put d.outcome) done

module _ (net : Network) (network : IsNetwork net) where
  turns_add : (works : List Work) (w : World) (es : List Emission) → Conserved net w → Remains net w es → AreTurns net works → IsRun net w (actions_in works) →
      Remains net (run net w (actions_in works)) (es ++ emitted (done_from net w works))
  unfolding done_from
  turns_add [] w es c s turns h =
      subst (λ (x : World). Remains net x (es ++ [])) (sym (run_none net w)) (subst (Remains net w) (sym (append-nil es)) s)
  turns_add (x ∷ works) w es c s turns h =
      let a : Action = x.action in
      let now : IsStep net w a = first_step net w a (actions_in works) h in
      let may : is_enabled net w a ≡ true = and_left (is_enabled net w a) (is_shown (environment_of a) (step net w a).1) now in
      let next : World = (step net w a).0 in
      let more : List Emission = wanted_put (step net w a).1 in
      let one = remains_more net w network c es s a turns.0.0 (turn_adds net w network c turns.0.0 a turns.0.2 may) in
      let rest = turns_add works next (es ++ more) (step_keeps net w a network now c) one turns.1 (later_steps net w a (actions_in works) h) in
      subst (λ (y : World). Remains net y (es ++ (more ++ emitted (done_from net next works)))) (sym (run_one net w a (actions_in works)))
      (subst (Remains net (run net next (actions_in works))) (append_assoc es more (emitted (done_from net next works))) rest)

-- Lemmas on sequences that keep the order on each lane.

abbrev what : List (ℕ × Emission) → List Emission
what xs = map (λ (x : ℕ × Emission). x.1) xs

module _ (xs ys : List (ℕ × Emission)) (same : AreTheSame xs ys) where
  same_on : (l : Lane) → on lane_of l (what xs) ≡ on lane_of l (what ys)
  same_on l =
      map_kept (λ (e : Emission). lane_eq (lane_of e) l) (λ (x : ℕ × Emission). x.1) xs ∙ ap what (same l)
      ∙ sym (map_kept (λ (e : Emission). lane_eq (lane_of e) l) (λ (x : ℕ × Emission). x.1) ys)

  same_orders : (l : Lane) → on (λ (o : Order). o.lane) l (orders_in (what ys)) ≡ on (λ (o : Order). o.lane) l (orders_in (what xs))
  same_orders l = orders_on l (what ys) ∙ ap orders_in (sym (same_on l)) ∙ sym (orders_on l (what xs))

  same_repeats : (l : Lane) → on (λ (r : Repeat). r.lane) l (repeats_in (what ys)) ≡ on (λ (r : Repeat). r.lane) l (repeats_in (what xs))
  same_repeats l = repeats_on_lane l (what ys) ∙ ap repeats_in (sym (same_on l)) ∙ sym (repeats_on_lane l (what xs))

  same_each : (P : Emission → Type 0) → AllByRecursion P (what ys) → AllByRecursion P (what xs)
  same_each P h = all_by_lane lane_of P (what xs) (λ l. subst (AllByRecursion P) (sym (same_on l)) (all_kept P (λ (e : Emission). lane_eq (lane_of e) l) (what ys) h))

  remains_same : (net : Network) (w : World) → Remains net w (what ys) → Remains net w (what xs)
  remains_same net w s = record {
    each = same_each (IsOfSender net w) s.each;
    unclaimed = λ l. s.unclaimed l ∙ ap (map ordered) (same_orders l);
    outgoing = λ l. s.outgoing l ∙ ap (map (repeated (w.frames l))) (same_repeats l);
  }

what_placed : (place : ℕ) (es : List Emission) → what (map (λ e. (place, e)) es) ≡ es
what_placed place [] = refl
what_placed place (e ∷ es) = ap (λ (xs : List Emission). e ∷ xs) (what_placed place es)

what_wanted : (done : List Done) → what (wanted_by done) ≡ emitted done
what_wanted [] = refl
what_wanted (d ∷ done) =
    map-append (λ (x : ℕ × Emission). x.1) (map (λ e. (d.work.place, e)) (wanted_put d.outcome)) (wanted_by done)
    ∙ ap (λ (es : List Emission). es ++ what (wanted_by done)) (what_placed d.work.place (wanted_put d.outcome))
    ∙ ap (λ (es : List Emission). wanted_put d.outcome ++ es) (what_wanted done)

none_yet : (net : Network) (w : World) → IsQuiet w → Remains net w []
none_yet net w quiet = record { each = tt; unclaimed = quiet.claimed; outgoing = quiet.put }

pub turns_leave : (net : Network) (w : World) (works : List Work) (wanted : List (ℕ × Emission)) → IsNetwork net → Conserved net w → IsQuiet w → AreTurns net works →
    IsRun net w (actions_in works) → AreTheSame wanted (wanted_by (done_from net w works)) → Remains net (run net w (actions_in works)) (what wanted)
turns_leave net w works wanted network c quiet turns h same =
    let done : List Done = done_from net w works in
    let after : World = run net w (actions_in works) in
    remains_same wanted (wanted_by done) same net after
    (subst (Remains net after) (sym (what_wanted done)) (turns_add net network works w [] c (none_yet net w quiet) turns h))
