-- A turn orders each frame at most once.
use Rattle.std.proofs.Common.{◌≡◌, ℕ, ◌+◌, ◌≤◌, true, false, not, ◌&&◌, ◌||◌, List, [], ◌∷◌, ◌++◌, map, refl, sym, ◌∙◌, ap, subst, arith}
use Rattle.std.specs.Prelude.{◌==◌, nat_lt, count_by, filter}
use Rattle.std.specs.List.{list_all, flat_map, AllByRecursion}
use Rattle.std.proofs.lemmas.List.{map-append}
use Rattle.qkd_base.specs.declared.lane.Lane.{Lane}
use Rattle.net_model.specs.declared.event.Event.{Event}
use Rattle.net_model.specs.declared.event.Event.TheVariants.{Plan}
use Rattle.net_model.specs.declared.order.Order.{Order}
use Rattle.net_model.specs.declared.repeat.Repeat.{Repeat}
use Rattle.net_model.specs.declared.reply.Reply.TheVariants.{Planned}
use Rattle.net_model.specs.declared.short_of.ShortOf.{ShortOf}
use Rattle.net_model.specs.Journal.{journal_limit, added_len, is_nil}
use Rattle.net_model.specs.OctetSequence.{has_octets}
use Rattle.net_model.specs.Site.{outgoing_lanes}
use Rattle.net_model.specs.World.{Network, World, Transmission}
use Rattle.net_model.specs.View.{View, Port}
use Rattle.net_model.specs.Premises.{IsNetwork}
use Rattle.net_model.specs.Invariant.{Conserved}
use Rattle.net_model.specs.Window.{age, repeats_on, repeat_of, transmission_eq}
use Rattle.net_model.specs.Decision.{Effect}
use Rattle.net_model.specs.Decide.{decide, random_need}
use Rattle.net_model.specs.Plan.{orders_on, spelled_orders, plan}
use Rattle.net_model.specs.Tick.{Emission, Again, New, ordered}
use Rattle.net_model.specs.Action.{Environment, Action, Ask, Deliver, Outcome, Replies, is_no_memory, is_entropy_fault, is_io_fault}
use Rattle.net_model.specs.Handle.{is_numbered, perform, handle}
use Rattle.net_model.specs.BlockOrder.{is_block_event, is_turn_of}
use Rattle.net_model.specs.Step.{step, IsStep, IsRun}
use Rattle.run_model.specs.Works.{Work, Done, actions_in, done_from, wanted_put}
use Rattle.law_base.proofs.Base.{by_test, and_right}
use Rattle.law_invariant.specs.May.{is_plan}
use Rattle.law_invariant.proofs.Decisions.{plan_is}
use Rattle.law_invariant.proofs.Steps.{step_keeps}
use Rattle.law_locality.proofs.Runs.{first_step, later_steps}
use Rattle.law_invariant.proofs.Outgoing.{of_ports}
use Rattle.law_invariant.proofs.Seen.{seen, seen_is}
use Rattle.law_locality.proofs.Plans.{lanes, wanted, replies, entries}
use Rattle.law_locality.proofs.Spelling.{orders_at, replied_at, lane_replied}
use Rattle.law_parallel.specs.Remaining.{AreTurns}
use Rattle.law_parallel.proofs.Replies.{event_none, delivery_none}
use Rattle.law_parallel.proofs.Counting.{count-append, count-map, counted_none}
use Rattle.law_parallel.proofs.OrderOnce.{order_once}
use Rattle.law_parallel.proofs.RepeatOnce.{repeat_once}
use Rattle.law_parallel.proofs.Same.{is_same}

abbrev pub AreOnce : List Emission → Type 0
AreOnce es = (e : Emission) → count_by (is_same e) es ≤ 1

none_once : (es : List Emission) → es ≡ [] → AreOnce es
none_once es is = subst AreOnce (sym is) (λ e. omega arith)

module _ (net : Network) (w : World) (v : ℕ) (c : Conserved net w) where
  abbrev repeats : List Repeat
  repeats = map repeat_of (entries net w v)

  replies_ordered : (ls : List Lane) → map ordered (flat_map (replied_at net w v) ls) ≡ flat_map (orders_at net w v) ls
  replies_ordered [] = refl
  replies_ordered (l ∷ ls) =
      map-append ordered (replied_at net w v l) (flat_map (replied_at net w v) ls)
      ∙ ap (λ (ts : List Transmission). ts ++ map ordered (flat_map (replied_at net w v) ls)) (lane_replied net w v l).ordered
      ∙ ap (λ (ts : List Transmission). orders_at net w v l ++ ts) (replies_ordered ls)

  planned_once : AreOnce (map Again repeats ++ map New (replies net w v))
  planned_once (Again r) =
      let both = count-append (is_same (Again r)) (map Again repeats) (map New (replies net w v)) in
      let one = count-map (is_same (Again r)) Again repeats in
      let two = count-map (λ s. is_same (Again r) (Again s)) repeat_of (entries net w v) in
      let three = repeat_once net w v c (r.lane, r.offset) in
      let four = count-map (is_same (Again r)) New (replies net w v) in
      let none = counted_none (λ (o : Order). false) (λ o. refl) (replies net w v) in
      omega (arith, both, one, two, three, four, none)
  planned_once (New o) =
      let both = count-append (is_same (New o)) (map Again repeats) (map New (replies net w v)) in
      let one = count-map (is_same (New o)) Again repeats in
      let none = counted_none (λ (r : Repeat). false) (λ r. refl) repeats in
      let two = count-map (is_same (New o)) New (replies net w v) in
      let three = count-map (transmission_eq (ordered o)) ordered (replies net w v) in
      let four : count_by (transmission_eq (ordered o)) (map ordered (replies net w v)) ≡ count_by (transmission_eq (ordered o)) (wanted net w v) =
      ap (count_by (transmission_eq (ordered o))) (replies_ordered (lanes net w v)) in
      let five = order_once net w v c (ordered o) in
      omega (arith, both, one, none, two, three, four, five)

  abbrev AnswersOnce : World × Outcome → Type 0
  AnswersOnce r = AreOnce (wanted_put r.1)

  once_as : (orders : List Order) (again : List Repeat) (shorts : List ShortOf) → orders ≡ replies net w v → again ≡ repeats →
      AreOnce (wanted_put (Replies (Planned orders again shorts)))
  once_as orders again shorts o r =
      subst (λ (os : List Order). AreOnce (map Again again ++ map New os)) (sym o)
      (subst (λ (rs : List Repeat). AreOnce (map Again rs ++ map New (replies net w v))) (sym r) planned_once)

  -- The plan computed from what the manager sees.

  abbrev effect_over : View → Effect
  effect_over x = plan net.site w.link_up x

  plan_repeats : (effect_over (seen net w v)).repeats ≡ entries net w v
  unfolding plan
  plan_repeats = of_ports net w w.link_up (λ (p : Port). repeats_on (map age (w.volatile v).window) p.lane) (outgoing_lanes net.site v)

  plan_replies : flat_map (λ (p : Port). spelled_orders (seen net w v).facts p.planned (orders_on net.site (seen net w v) p)) (filter (λ (p : Port). w.link_up p.lane.link) (seen net w v).ports) ≡ replies net w v
  plan_replies = of_ports net w w.link_up (λ (p : Port). spelled_orders (seen net w v).facts p.planned (orders_on net.site (seen net w v) p)) (outgoing_lanes net.site v)

  committed_once : AreOnce (wanted_put (Replies (effect_over (seen net w v)).reply))
  unfolding plan
  committed_once = once_as _ _ [] plan_replies (ap (map repeat_of) plan_repeats)

  performed_once : (octets : ℕ) (environment : Environment) → AnswersOnce (perform net w v octets environment (effect_over (seen net w v)))
  unfolding perform
  performed_once octets environment =
      let e : Effect = effect_over (seen net w v) in
      by_test AnswersOnce (is_no_memory environment || not (list_all is_numbered e.batch)) _ _ (λ t. none_once [] refl)
      (λ t. by_test AnswersOnce (nat_lt journal_limit ((w.journal v).length' + added_len (w.journal v).version e.batch)) _ _ (λ t. none_once [] refl)
      (λ t. by_test AnswersOnce (nat_lt 0 octets && (not (has_octets (net.entropy v) (w.drawn v + octets)) || is_entropy_fault environment)) _ _ (λ t. none_once [] refl)
      (λ t. by_test AnswersOnce (is_io_fault environment && not (is_nil e.batch)) _ _ (λ t. none_once [] refl) (λ t. committed_once))))

  plan_once : (environment : Environment) → AnswersOnce (handle net w v Plan environment)
  unfolding handle decide random_need
  plan_once environment =
      by_test AnswersOnce (w.up v) _ _
      (λ t. subst (λ (x : View). AnswersOnce (perform net w v 0 environment (effect_over x))) (sym (seen_is net w v)) (performed_once 0 environment)) (λ t. none_once [] refl)

  event_once : (event : Event) (environment : Environment) → is_block_event event ≡ true → AnswersOnce (handle net w v event environment)
  event_once event environment turn =
      elim (is_plan event) as (λ t. is_plan event ≡ t → AnswersOnce (handle net w v event environment)) [
        | true ↦ λ is. subst (λ (x : Event). AnswersOnce (handle net w v x environment)) (sym (plan_is event is)) (plan_once environment)
        | false ↦ λ other. none_once (wanted_put (handle net w v event environment).1) (event_none net w v event environment turn other)
      ] refl

module _ (net : Network) where
  turn_once : (w : World) → Conserved net w → (v : ℕ) (a : Action) → is_turn_of net.site v a ≡ true → AreOnce (wanted_put (step net w a).1)
  unfolding step
  turn_once w c v (Ask u event environment) turn = event_once net w u c event environment (and_right (u == v) (is_block_event event) turn)
  turn_once w c v (Deliver l number environment) turn = none_once _ (delivery_none net w l number environment)
  turn_once w c v _ turn = absurd (cc)

  pub turns_once : IsNetwork net → (works : List Work) (w : World) → Conserved net w → AreTurns net works → IsRun net w (actions_in works) →
      AllByRecursion (λ (d : Done). AreOnce (wanted_put d.outcome)) (done_from net w works)
  unfolding done_from
  turns_once network [] w c turns h = tt
  turns_once network (x ∷ works) w c turns h =
      let now : IsStep net w x.action = first_step net w x.action (actions_in works) h in (
        turn_once w c turns.0.0 x.action turns.0.2,
        turns_once network works (step net w x.action).0 (step_keeps net w x.action network now c) turns.1 (later_steps net w x.action (actions_in works) h),
      )
