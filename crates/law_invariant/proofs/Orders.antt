-- The orders of a plan fit under its leases, and frames may carry their items.
use Rattle.std.proofs.Common.{◌≡◌, ℕ, ◌+◌, ◌≤◌, true, false, ◌||◌, List, [], ◌∷◌, ◌++◌, length, refl, sym, ◌∙◌, ap, subst, arith, inl, inr, Some, append-nil}
use Rattle.std.specs.Prelude.{slice_get, filter, if◌then◌else◌}
use Rattle.std.specs.List.{list_any, flat_map, AllByRecursion}
use Rattle.std.proofs.lemmas.List.Elements.{filter-append}
use Rattle.qkd_base.specs.Name.{Name}
use Rattle.qkd_base.specs.Lane.{lane_eq}
use Rattle.qkd_base.specs.declared.lane.Lane.{Lane}
use Rattle.net_model.specs.declared.fact.Fact.{Fact}
use Rattle.net_model.specs.declared.record.Record.{Record}
use Rattle.net_model.specs.Site.{sender, receiver, outgoing_lanes}
use Rattle.net_model.specs.World.{Network, World, Durable, Transmission, Owner, needs}
use Rattle.net_model.specs.Needed.{view_of}
use Rattle.net_model.specs.View.{View}
use Rattle.net_model.specs.Records.{replay}
use Rattle.net_model.specs.Handle.{with_orders}
use Rattle.net_model.specs.Knowledge.{MayCarry}
use Rattle.net_model.specs.Doubt.{MayReplay}
use Rattle.net_model.specs.Decision.{Effect}
use Rattle.net_model.specs.Plan.{orders_on, leases_on, plan}
use Rattle.net_model.specs.Windows.{IsShaped, IsAwaitedAck}
use Rattle.net_model.specs.Invariant.{Conserved, Invariant}
use Rattle.law_base.proofs.Base.{lane_eq_from, when_true, when_false}
use Rattle.law_base.proofs.Lists.{kept_at, both_cases, all_both, all_at}
use Rattle.law_invariant.proofs.Outgoing.{AreOutgoing, outgoing_each, of_ports}
use Rattle.law_invariant.proofs.Seen.{seen, seen_is, needs_seen}
use Rattle.law_invariant.proofs.Wanted.{IsWanted, AreWanted}
use Rattle.law_invariant.proofs.Leases.{orders_at, leases_at, orders_wanted, Leased, plan_leases}

-- The orders on one lane.
abbrev pub on : Lane → List Transmission → List Transmission
on l ts = filter (λ (x : Transmission). lane_eq x.lane l) ts

pub with_orders_is : (ts : List Transmission) (unclaimed : Lane → List Transmission) (l : Lane) → with_orders ts unclaimed l ≡ unclaimed l ++ on l ts
with_orders_is [] unclaimed l = sym (append-nil (unclaimed l))
with_orders_is (t ∷ ts) unclaimed l = refl

pub needs-append : (facts : List Fact) (xs ys : List Transmission) → needs facts (xs ++ ys) ≡ needs facts xs + needs facts ys
needs-append facts [] ys = omega arith
needs-append facts (x ∷ xs) ys = omega (arith, needs-append facts xs ys)

all_of_weaker : {A : Type 0} (P Q : A → Type 0) → ((x : A) → P x → Q x) → (xs : List A) → AllByRecursion P xs → AllByRecursion Q xs
all_of_weaker P Q h [] a = tt
all_of_weaker P Q h (x ∷ xs) a = (h x a.0, all_of_weaker P Q h xs a.1)

module _ (net : Network) (w : World) (v : ℕ) (c : Conserved net w) where
  abbrev facts : List Fact
  facts = w.durable.facts

  on_all : (l m : Lane) (ts : List Transmission) → AreWanted net w v c m ts → lane_eq m l ≡ true → on l ts ≡ ts
  on_all l m [] h e = refl
  on_all l m (t ∷ ts) h e =
      when_true (lane_eq t.lane l) (t ∷ on l ts) (on l ts) (ap (λ (y : Lane). lane_eq y l) h.0.lane ∙ e) ∙ ap (λ (us : List Transmission). t ∷ us) (on_all l m ts h.1 e)

  on_none : (l m : Lane) (ts : List Transmission) → AreWanted net w v c m ts → lane_eq m l ≡ false → on l ts ≡ []
  on_none l m [] h e = refl
  on_none l m (t ∷ ts) h e =
      when_false (lane_eq t.lane l) (t ∷ on l ts) (on l ts) (ap (λ (y : Lane). lane_eq y l) h.0.lane ∙ e) ∙ on_none l m ts h.1 e

  plus_nothing : (a b : ℕ) → a ≡ 0 → a + b ≡ b
  plus_nothing a b h = omega arith

  -- The part of all orders that is on one lane.
  part : (l : Lane) (ls : List Lane) → AreOutgoing net.site v ls →
      needs facts (on l (flat_map (orders_at net w v c) ls)) ≡ (if list_any (λ k. lane_eq k l) ls then needs facts (orders_at net w v c l) else 0)
  part l [] ok = refl
  part l (m ∷ ls) ok =
      let mine : List Transmission = orders_at net w v c m in
      let rest = part l ls ok.2 in
      ap (needs facts) (filter-append (λ (x : Transmission). lane_eq x.lane l) mine (flat_map (orders_at net w v c) ls)) ∙
      needs-append facts (on l mine) (on l (flat_map (orders_at net w v c) ls)) ∙
      (elim (lane_eq m l) as (λ t. lane_eq m l ≡ t → needs facts (on l mine) + needs facts (on l (flat_map (orders_at net w v c) ls)) ≡
      (if t || list_any (λ k. lane_eq k l) ls then needs facts (orders_at net w v c l) else 0)) [
        | true ↦ λ e. let is : m ≡ l = lane_eq_from m l e in
            let here : needs facts (on l mine) ≡ needs facts (orders_at net w v c l) =
            ap (needs facts) (on_all l m mine (orders_wanted net w v c m) e) ∙ ap (λ (y : Lane). needs facts (orders_at net w v c y)) is in
            let none : list_any (λ k. lane_eq k l) ls ≡ false = subst (λ (y : Lane). list_any (λ k. lane_eq k y) ls ≡ false) is ok.1 in
            let nothing : needs facts (on l (flat_map (orders_at net w v c) ls)) ≡ 0 = rest ∙ when_false (list_any (λ k. lane_eq k l) ls) _ _ none in
            omega (arith, here, nothing)
        | false ↦ λ e. let nothing : needs facts (on l mine) ≡ 0 = ap (needs facts) (on_none l m mine (orders_wanted net w v c m) e) in
            plus_nothing _ _ nothing ∙ rest
      ] refl)

  -- The order is on a lane that leaves the node, and the node wants to send it there.
  pub record IsOrder (t : Transmission) : Type 0 where
    pub at : sender net.site t.lane ≡ v
    pub shaped : IsShaped t
    pub carried : MayCarry facts w.durable.known (sender net.site t.lane) (receiver net.site t.lane) t.item
    pub awaited : IsAwaitedAck (w.volatile v) t t.received_offset

  order_of : (m : Lane) → sender net.site m ≡ v → (t : Transmission) → IsWanted net w v c m t → IsOrder t
  order_of m at t h =
      let at' : sender net.site t.lane ≡ v = ap (sender net.site) h.lane ∙ at in
      record {
        at = at';
        shaped = h.shaped;
        carried = subst (λ (u : ℕ). MayCarry facts w.durable.known u (receiver net.site t.lane) t.item) (sym at')
            (subst (λ (y : Lane). MayCarry facts w.durable.known v (receiver net.site y) t.item) (sym h.lane) h.carried);
        awaited = h.awaited;
      }

  are_orders : (ls : List Lane) → AreOutgoing net.site v ls → AllByRecursion IsOrder (flat_map (orders_at net w v c) ls)
  are_orders [] ok = tt
  are_orders (m ∷ ls) ok =
      all_both IsOrder (orders_at net w v c m) _
      (all_of_weaker (IsWanted net w v c m) IsOrder (order_of m ok.0) (orders_at net w v c m) (orders_wanted net w v c m)) (are_orders ls ok.2)

  abbrev lanes : List Lane
  lanes = filter (λ (l : Lane). w.link_up l.link) (outgoing_lanes net.site v)

  each : AreOutgoing net.site v lanes
  each = outgoing_each net.site v (λ l. w.link_up l.link)

  abbrev orders : List Transmission
  orders = flat_map (orders_at net w v c) lanes

  abbrev leases : List Record
  leases = flat_map (leases_at net w v c) lanes

  all : Leased net w v c w.durable leases lanes
  all = plan_leases net w v c lanes each

  abbrev after : Durable
  after = replay net.site v leases w.durable

  order_at : (l : Lane) (j : ℕ) (t : Transmission) → slice_get (on l orders) j ≡ Some t → (t.lane ≡ l) × IsOrder t
  order_at l j t h =
      let r = kept_at (λ (x : Transmission). lane_eq x.lane l) orders t j h in
      (lane_eq_from t.lane l r.2, all_at IsOrder orders r.0 t (are_orders lanes each) r.1)

  order_room : (l : Lane) → length (after.own l) + needs after.facts (with_orders orders w.unclaimed l) ≤ after.lease l
  order_room l =
      let own : length (after.own l) ≡ length (w.durable.own l) = ap (λ (o : Lane → List Owner). length (o l)) all.own in
      let table : needs after.facts (with_orders orders w.unclaimed l) ≡ needs facts (w.unclaimed l ++ on l orders) =
      ap (λ (f : List Fact). needs f (with_orders orders w.unclaimed l)) all.facts ∙ ap (needs facts) (with_orders_is orders w.unclaimed l) in
      let both : needs facts (w.unclaimed l ++ on l orders) ≡ needs facts (w.unclaimed l) + needs facts (on l orders) = needs-append facts (w.unclaimed l) (on l orders) in
      elim (list_any (λ k. lane_eq k l) lanes) as (λ t. list_any (λ k. lane_eq k l) lanes ≡ t → needs facts (on l orders) ≡ (if t then needs facts (orders_at net w v c l) else 0) →
      length (after.own l) + needs after.facts (with_orders orders w.unclaimed l) ≤ after.lease l) [
        | true ↦ λ e q.
            let may = all_of_weaker (IsWanted net w v c l) _ (λ t o. o.carried) (orders_at net w v c l) (orders_wanted net w v c l) in
            let same : needs (seen net w v).facts (orders_at net w v c l) ≡ needs facts (orders_at net w v c l) = needs_seen net w v (receiver net.site l) (orders_at net w v c l) may in
            omega (arith, own, table, both, q, same, all.reach l e)
        | false ↦ λ e q. omega (arith, own, table, both, q, (c.now.room l).planned, all.up l)
      ] refl (part l lanes each)

  orders_fit : Invariant net.site after w.frames w.unclaimed → Invariant net.site after w.frames (with_orders orders w.unclaimed)
  orders_fit x = record {
    owned = x.owned;
    room = λ l. record { planned = order_room l; leased = (x.room l).leased };
    table = x.table;
    streams = x.streams;
    groups = x.groups;
    knowledge = x.knowledge;
    carried = λ l. record {
      framed = (x.carried l).framed;
      wanted = λ j t h. elim (both_cases (w.unclaimed l) (on l orders) j t (ap (λ (ts : List Transmission). slice_get ts j) (sym (with_orders_is orders w.unclaimed l)) ∙ h)) [
        | inl old ↦ (x.carried l).wanted j t old
        | inr (k, new) ↦
            let o = order_at l k t new in
            let may : MayCarry facts w.durable.known (sender net.site l) (receiver net.site l) t.item =
            subst (λ (y : Lane). MayCarry facts w.durable.known (sender net.site y) (receiver net.site y) t.item) o.0 o.1.carried in
            subst (λ (f : List Fact). MayCarry f after.known (sender net.site l) (receiver net.site l) t.item) (sym all.facts)
            (subst (λ (k : ℕ → List Name). MayCarry facts k (sender net.site l) (receiver net.site l) t.item) (sym all.known) may)
      ];
    };
    marked = x.marked;
    stored = x.stored;
    handings = x.handings;
  }

  -- The effect of the plan.

  abbrev pub planned_effect : Effect
  planned_effect = plan net.site w.link_up (view_of net w v)

  plan_batch : planned_effect.batch ≡ leases
  unfolding plan
  plan_batch =
      ap (λ (x : View). (plan net.site w.link_up x).batch) (seen_is net w v) ∙
      of_ports net w w.link_up (leases_on net.site (seen net w v)) (outgoing_lanes net.site v)

  plan_orders : planned_effect.orders ≡ orders
  unfolding plan
  plan_orders =
      ap (λ (x : View). (plan net.site w.link_up x).orders) (seen_is net w v) ∙
      of_ports net w w.link_up (orders_on net.site (seen net w v)) (outgoing_lanes net.site v)

  -- The leases of the plan are permitted.
  pub plan_may : MayReplay net.site w.durable v planned_effect.batch
  plan_may = subst (MayReplay net.site w.durable v) (sym plan_batch) all.may

  -- The orders of the plan fit under its leases, and frames may carry their items.
  pub plan_fits : Invariant net.site (replay net.site v planned_effect.batch w.durable) w.frames w.unclaimed →
      Invariant net.site (replay net.site v planned_effect.batch w.durable) w.frames (with_orders planned_effect.orders w.unclaimed)
  plan_fits =
      subst (λ (b : List Record). Invariant net.site (replay net.site v b w.durable) w.frames w.unclaimed →
      Invariant net.site (replay net.site v b w.durable) w.frames (with_orders planned_effect.orders w.unclaimed)) (sym plan_batch)
      (subst (λ (os : List Transmission). Invariant net.site after w.frames w.unclaimed → Invariant net.site after w.frames (with_orders os w.unclaimed)) (sym plan_orders) orders_fit)

  pub plan_order_at : (j : ℕ) (t : Transmission) → slice_get planned_effect.orders j ≡ Some t → IsOrder t
  plan_order_at j t h = all_at IsOrder orders j t (are_orders lanes each) (ap (λ (ts : List Transmission). slice_get ts j) (sym plan_orders) ∙ h)
