-- The manager replies with a plan, and the plan's frames wait to be sent. Or it gives another answer, and the network
-- stays quiet.
use Rattle.std.proofs.Common.{◌≡◌, ℕ, ◌+◌, true, not, ◌&&◌, ◌||◌, List, [], refl, sym, ◌∙◌, ap, subst, map}
use Rattle.std.specs.Prelude.{nat_lt, filter}
use Rattle.std.specs.List.{list_all, flat_map}
use Rattle.net_model.specs.declared.order.Order.{Order}
use Rattle.net_model.specs.declared.repeat.Repeat.{Repeat}
use Rattle.net_model.specs.declared.short_of.ShortOf.{ShortOf}
use Rattle.net_model.specs.declared.event.Event.TheVariants.{Plan}
use Rattle.net_model.specs.declared.reply.Reply.{Reply}
use Rattle.net_model.specs.declared.reply.Reply.TheVariants.{Planned, Memory, JournalFull, NoRandom, Stopped, Down}
use Rattle.net_model.specs.Journal.{journal_limit, added_len, is_nil}
use Rattle.net_model.specs.OctetSequence.{has_octets}
use Rattle.net_model.specs.Site.{outgoing_lanes}
use Rattle.net_model.specs.World.{Network, World, Transmission, Entry}
use Rattle.net_model.specs.View.{View, Port}
use Rattle.net_model.specs.Needed.{view_of}
use Rattle.net_model.specs.Premises.{IsNetwork}
use Rattle.net_model.specs.Invariant.{Conserved}
use Rattle.net_model.specs.Window.{age, repeats_on, repeat_of}
use Rattle.net_model.specs.Decision.{Effect}
use Rattle.net_model.specs.Decide.{decide, random_need}
use Rattle.net_model.specs.Plan.{orders_on, spelled_orders, plan}
use Rattle.net_model.specs.Action.{Environment, Ask, Outcome, Replies, is_no_memory, is_entropy_fault, is_io_fault}
use Rattle.net_model.specs.Handle.{is_numbered, with_orders, with_repeats, commit, stopped, perform, handle}
use Rattle.net_model.specs.Step.{step, is_node, is_enabled, IsStep}
use Rattle.net_model.specs.Tick.{tick_order}
use Rattle.law_base.proofs.Base.{and_left, by_test}
use Rattle.law_base.proofs.Growth.{Outgrows}
use Rattle.law_base.proofs.Lasting.{step_more}
use Rattle.law_invariant.proofs.Outgoing.{of_ports}
use Rattle.law_invariant.proofs.Seen.{seen, seen_is}
use Rattle.law_locality.specs.Quiet.{IsQuiet}
use Rattle.law_locality.specs.Sending.{Sends}
use Rattle.law_locality.proofs.Plans.{wanted, replies, entries, IsPlanOf, plan_sends}

-- The reply isn't that of a plan.
abbrev IsOther : Reply → Type 0
IsOther (Planned orders repeats shorts) = ⊥
IsOther _ = Unit {0}

module _ (net : Network) (w : World) (v : ℕ) where
  abbrev effect_over : View → Effect
  effect_over x = plan net.site w.link_up x

  -- What a plan of a quiet network leaves, if the manager replies with it.

  abbrev IsPlanned : (World × Outcome) → List Order → List Repeat → List ShortOf → Type 0
  IsPlanned r orders repeats shorts = r.1 ≡ Replies (Planned orders repeats shorts)

  record Rests (r : World × Outcome) : Type 0 where
    noted : r.0.placings ≡ w.placings
    otherwise : ((orders : List Order) (repeats : List Repeat) (shorts : List ShortOf) → IsPlanned r orders repeats shorts → ⊥) →
        (r.0.unclaimed ≡ w.unclaimed) × (r.0.outgoing ≡ w.outgoing)

  rest_same : (x : Outcome) → Rests (w, x)
  rest_same x = record { noted = refl; otherwise = λ h. (refl, refl) }

  rest_stopped : (octets : ℕ) (e : Effect) (x : Outcome) → Rests (stopped w v octets e, x)
  unfolding stopped
  rest_stopped octets e x = record { noted = refl; otherwise = λ h. (refl, refl) }

  rest_planned : (octets : ℕ) (x : View) → Rests (commit net.site w v octets (effect_over x), Replies (effect_over x).reply)
  unfolding commit plan
  rest_planned octets x = record { noted = refl; otherwise = λ h. absurd (h _ _ _ refl) }

  rest_performed : (octets : ℕ) (environment : Environment) (x : View) → Rests (perform net w v octets environment (effect_over x))
  unfolding perform
  rest_performed octets environment x =
      let e : Effect = effect_over x in
      by_test Rests (is_no_memory environment || not (list_all is_numbered e.batch)) _ _ (λ t. rest_same _)
      (λ t. by_test Rests (nat_lt journal_limit ((w.journal v).length' + added_len (w.journal v).version e.batch)) _ _ (λ t. rest_same _)
      (λ t. by_test Rests (nat_lt 0 octets && (not (has_octets (net.entropy v) (w.drawn v + octets)) || is_entropy_fault environment)) _ _ (λ t. rest_same _)
      (λ t. by_test Rests (is_io_fault environment && not (is_nil e.batch)) _ _ (λ t. rest_stopped octets e _) (λ t. rest_planned octets x))))

  rests : (environment : Environment) → Rests (step net w (Ask v Plan environment))
  unfolding step handle decide random_need
  rests environment = by_test Rests (w.up v) _ _ (λ t. rest_performed 0 environment (view_of net w v)) (λ t. rest_same _)

  pub plan_noted : (environment : Environment) (u : ℕ) → IsQuiet w → (step net w (Ask v Plan environment)).0.placings u ≡ []
  plan_noted environment u quiet = ap (λ (f : ℕ → _). f u) (rests environment).noted ∙ quiet.noted u

  pub plan_rests : (environment : Environment) → IsQuiet w →
      ((orders : List Order) (repeats : List Repeat) (shorts : List ShortOf) → IsPlanned (step net w (Ask v Plan environment)) orders repeats shorts → ⊥) →
      IsQuiet (step net w (Ask v Plan environment)).0
  plan_rests environment quiet h =
      let r = rests environment in
      let same = r.otherwise h in
      record {
        claimed = λ l. ap (λ (f : _ → List Transmission). f l) same.0 ∙ quiet.claimed l;
        put = λ l. ap (λ (f : _ → List _). f l) same.1 ∙ quiet.put l;
        noted = λ u. plan_noted environment u quiet;
      }

  module _ (network : IsNetwork net) (c : Conserved net w) (quiet : IsQuiet w) (node : is_node net v ≡ true) where
    abbrev Sent : World × Outcome → Type 0
    Sent r = Outgrows w r.0 → (orders : List Order) (repeats : List Repeat) (shorts : List ShortOf) → IsPlanned r orders repeats shorts →
        Sends net r.0 v (tick_order (outgoing_lanes net.site v) repeats orders)

    -- The plan computed from what the manager sees, lane by lane.

    plan_orders : (effect_over (seen net w v)).orders ≡ wanted net w v
    unfolding plan
    plan_orders = of_ports net w w.link_up (orders_on net.site (seen net w v)) (outgoing_lanes net.site v)

    plan_repeats : (effect_over (seen net w v)).repeats ≡ entries net w v
    unfolding plan
    plan_repeats = of_ports net w w.link_up (λ (p : Port). repeats_on (map age (w.volatile v).window) p.lane) (outgoing_lanes net.site v)

    plan_replies : flat_map (λ (p : Port). spelled_orders (seen net w v).facts p.planned (orders_on net.site (seen net w v) p)) (filter (λ (p : Port). w.link_up p.lane.link) (seen net w v).ports) ≡ replies net w v
    plan_replies = of_ports net w w.link_up (λ (p : Port). spelled_orders (seen net w v).facts p.planned (orders_on net.site (seen net w v) p)) (outgoing_lanes net.site v)

    abbrev new : ℕ → World
    new octets = commit net.site w v octets (effect_over (seen net w v))

    is_plan : (octets : ℕ) → Outgrows w (new octets) → IsPlanOf net w v c (new octets)
    unfolding commit
    is_plan octets more = record {
      more = more;
      frames = refl;
      unclaimed = λ l. ap (λ (ts : List Transmission). with_orders ts w.unclaimed l) plan_orders;
      outgoing = λ l. ap (λ (es : List Entry). with_repeats es w.frames w.outgoing l) plan_repeats;
      placings = refl;
    }

    sent_by : (octets : ℕ) (orders : List Order) (repeats : List Repeat) → orders ≡ replies net w v → repeats ≡ map repeat_of (entries net w v) → Outgrows w (new octets) →
        Sends net (new octets) v (tick_order (outgoing_lanes net.site v) repeats orders)
    sent_by octets orders repeats o r more =
        subst (λ (os : List Order). Sends net (new octets) v (tick_order (outgoing_lanes net.site v) repeats os)) (sym o)
        (subst (λ (rs : List Repeat). Sends net (new octets) v (tick_order (outgoing_lanes net.site v) rs (replies net w v))) (sym r)
        (plan_sends net w v c network quiet node (new octets) (is_plan octets more)))

    sent_planned : (octets : ℕ) → Sent (new octets, Replies (effect_over (seen net w v)).reply)
    unfolding plan
    sent_planned octets more orders repeats shorts h =
        sent_by octets orders repeats (sym (of_orders h) ∙ plan_replies) (sym (of_repeats h) ∙ ap (map repeat_of) plan_repeats) more
      where
        of_orders : {a b : List Order} {r s : List Repeat} {x y : List ShortOf} → Replies (Planned a r x) ≡ Replies (Planned b s y) → a ≡ b
        of_orders h = cc

        of_repeats : {a b : List Order} {r s : List Repeat} {x y : List ShortOf} → Replies (Planned a r x) ≡ Replies (Planned b s y) → r ≡ s
        of_repeats h = cc

    sent_other : (x : World) (reply : Reply) → IsOther reply → Sent (x, Replies reply)
    sent_other x (Planned a b d) other more orders repeats shorts h = absurd other
    sent_other x _ other more orders repeats shorts h = cc

    sent_performed : (octets : ℕ) (environment : Environment) → Sent (perform net w v octets environment (effect_over (seen net w v)))
    unfolding perform
    sent_performed octets environment =
        let e : Effect = effect_over (seen net w v) in
        by_test Sent (is_no_memory environment || not (list_all is_numbered e.batch)) _ _ (λ t. sent_other w Memory tt)
        (λ t. by_test Sent (nat_lt journal_limit ((w.journal v).length' + added_len (w.journal v).version e.batch)) _ _ (λ t. sent_other w (JournalFull _ _) tt)
        (λ t. by_test Sent (nat_lt 0 octets && (not (has_octets (net.entropy v) (w.drawn v + octets)) || is_entropy_fault environment)) _ _ (λ t. sent_other w NoRandom tt)
        (λ t. by_test Sent (is_io_fault environment && not (is_nil e.batch)) _ _ (λ t. sent_other (stopped w v octets e) Stopped tt) (λ t. sent_planned octets))))

    sent : (environment : Environment) → Sent (step net w (Ask v Plan environment))
    unfolding step handle decide random_need
    sent environment =
        by_test Sent (w.up v) _ _
        (λ t. subst (λ (x : View). Sent (perform net w v 0 environment (effect_over x))) (sym (seen_is net w v)) (sent_performed 0 environment)) (λ t. sent_other w Down tt)

  node_of : (environment : Environment) → IsStep net w (Ask v Plan environment) → is_node net v ≡ true
  unfolding is_enabled
  node_of environment h = and_left (is_node net v) _ (and_left _ _ (and_left (is_enabled net w (Ask v Plan environment)) _ h))

  pub plan_goes : (environment : Environment) (orders : List Order) (repeats : List Repeat) (shorts : List ShortOf) → IsNetwork net → Conserved net w → IsQuiet w →
      IsStep net w (Ask v Plan environment) → (step net w (Ask v Plan environment)).1 ≡ Replies (Planned orders repeats shorts) →
      Sends net (step net w (Ask v Plan environment)).0 v (tick_order (outgoing_lanes net.site v) repeats orders)
  plan_goes environment orders repeats shorts network c quiet may said =
      sent network c quiet (node_of environment may) environment (step_more net w (Ask v Plan environment)) orders repeats shorts said
