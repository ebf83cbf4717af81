-- A plan orders each transmission at most once.
use Rattle.std.proofs.Common.{◌≡◌, ℕ, ◌+◌, ◌≤◌, Bool, true, false, not, ◌&&◌, List, [], ◌∷◌, ◌++◌, map, refl, sym, ◌∙◌, ap, arith, Option, Some, None}
use Rattle.std.specs.Prelude.{◌==◌, nat_lt, count_by, filter, filter_map, if◌then◌else◌}
use Rattle.std.specs.List.{list_any, cons_option, AllByRecursion}
use Rattle.std.proofs.Math.Bool.{and-false}
use Rattle.qkd_base.specs.Name.{Name, has}
use Rattle.qkd_base.specs.Route.{next_after}
use Rattle.qkd_base.specs.Lane.{lane_eq, reverse_lane}
use Rattle.qkd_base.specs.declared.lane.Lane.{Lane}
use Rattle.net_model.specs.declared.fact.Fact.{Fact}
use Rattle.net_model.specs.Table.{name_of, route_of, fact_at, facts_of}
use Rattle.net_model.specs.Item.{Item, DataItem, AckItem, need, item_eq, is_data_of}
use Rattle.net_model.specs.Site.{receiver}
use Rattle.net_model.specs.World.{Network, World, Transmission, PendingAck, planned}
use Rattle.net_model.specs.View.{received_of}
use Rattle.net_model.specs.Needed.{masked_fact, port_at}
use Rattle.net_model.specs.Invariant.{Conserved}
use Rattle.net_model.specs.Window.{offset_eq, transmission_eq}
use Rattle.net_model.specs.Relay.{is_some_of, owed}
use Rattle.net_model.specs.Plan.{acks_on, facts_on, wanted_on, that_fit, orders_on}
use Rattle.law_base.proofs.Base.{and_left, and_right, and_both, eq_from, eq_same}
use Rattle.law_base.proofs.Tables.{found_name}
use Rattle.law_locality.proofs.Counting.{one_if, count_more}
use Rattle.law_base.proofs.Masked.{masked_same, name_blind}
use Rattle.law_base.proofs.Seen.{bare_view}
use Rattle.law_invariant.proofs.Entries.{pending_place, answer_of}
use Rattle.law_invariant.proofs.Leases.{orders_wanted}
use Rattle.law_invariant.proofs.Outgoing.{outgoing_each}
use Rattle.law_invariant.proofs.Seen.{seen}
use Rattle.law_invariant.proofs.Wanted.{IsWanted}
use Rattle.law_locality.proofs.Plans.{lanes, wanted}
use Rattle.law_locality.proofs.Spelling.{orders_at}
use Rattle.law_parallel.proofs.ByLane.{once_by_lane}
use Rattle.law_parallel.proofs.Counting.{count-append, count-map, count_part, count_fewer, count_same, counted_none, one_false}
use Rattle.law_parallel.proofs.Differing.{is_at, first_places, is_name, name_once}
use Rattle.law_parallel.proofs.Same.{lane_eq-sym}

fits_fewer : (p : Transmission → Bool) (facts : List Fact) (got used : ℕ) (ts : List Transmission) → count_by p (that_fit facts got used ts) ≤ count_by p ts
fits_fewer p facts got used [] = omega arith
fits_fewer p facts got used (t ∷ ts) =
    let more = count_more p t ts in
    elim (nat_lt got (used + need facts t.item)) as (λ b. count_by p (if b then [] else t ∷ that_fit facts got (used + need facts t.item) ts) ≤ count_by p (t ∷ ts)) [
      | true ↦ omega arith
      | false ↦
          let rest = fits_fewer p facts got (used + need facts t.item) ts in
          let one = count_more p t (that_fit facts got (used + need facts t.item) ts) in
          omega (arith, rest, more, one)
    ]

-- Each name has at most one fact.
named_fewer : (p : Name → Bool) (facts : List Fact) (ns : List Name) → count_by (λ f. p (name_of f)) (facts_of facts ns) ≤ count_by p ns
named_fewer p facts [] = omega arith
named_fewer p facts (n ∷ ns) =
    let rest = named_fewer p facts ns in
    let more = count_more p n ns in
    elim (fact_at facts n) as (λ o. fact_at facts n ≡ o → count_by (λ f. p (name_of f)) (cons_option o (facts_of facts ns)) ≤ count_by p (n ∷ ns)) [
      | None ↦ λ e. omega (arith, rest, more)
      | Some f ↦ λ e.
          let one = count_more (λ f. p (name_of f)) f (facts_of facts ns) in
          let is : one_if (p (name_of f)) ≡ one_if (p n) = ap (λ (m : Name). one_if (p m)) (found_name facts n f e) in
          omega (arith, rest, more, one, is)
    ] refl

module _ (net : Network) (w : World) (v : ℕ) (c : Conserved net w) where
  owed_fewer : (p : Name → Bool) (to : ℕ) → count_by p (owed (seen net w v) to) ≤ count_by p (w.durable.known v)
  unfolding owed
  owed_fewer p to =
      let all : List Fact = facts_of w.durable.facts (w.durable.known v) in
      let shown : List Fact = map (masked_fact (bare_view net w v)) all in
      let keep : Fact → Bool = λ f. is_some_of (next_after (route_of f) v) to && not (has (w.durable.acked v) (name_of f)) in
      let one = count-map p name_of (filter keep shown) in
      let two = count_fewer keep (λ f. p (name_of f)) shown in
      let three = count-map (λ f. p (name_of f)) (masked_fact (bare_view net w v)) all in
      let four = count_same (λ f. p (name_of (masked_fact (bare_view net w v) f))) (λ f. p (name_of f)) (λ f. ap p (masked_same name_of name_blind (bare_view net w v) f)) all in
      let five = named_fewer p w.durable.facts (w.durable.known v) in
      omega (arith, one, two, three, four, five)

  name_owed_once : (m : Name) (to : ℕ) → count_by (is_name m) (owed (seen net w v) to) ≤ 1
  name_owed_once m to =
      let fewer = owed_fewer (is_name m) to in
      let once = name_once m (w.durable.known v) (c.now.knowledge.differ v) in
      omega (arith, fewer, once)

  module _ (t : Transmission) (l : Lane) where
    abbrev tell : Name → Transmission
    tell n = record { lane = l; item = DataItem n; received_offset = None }

    abbrev ack : PendingAck → Transmission
    ack a = record { lane = l; item = AckItem a.name; received_offset = Some a.offset }

    -- Lemmas on facts.

    -- No window entry of the lane sends the fact with this name.
    abbrev is_untold : Name → Bool
    is_untold n = not (list_any (λ e. lane_eq e.transmission.lane l && is_data_of n e.transmission.item) (w.volatile v).window)

    names_once : (i : Item) (to : ℕ) → count_by (λ (n : Name). item_eq i (DataItem n)) (owed (seen net w v) to) ≤ 1
    names_once (DataItem m) to = name_owed_once m to
    names_once (AckItem m) to = let none = counted_none (λ (n : Name). false) (λ n. refl) (owed (seen net w v) to) in omega (arith, none)

    told : (n : Name) → transmission_eq t (tell n) ≡ true → item_eq t.item (DataItem n) ≡ true
    told n h =
        and_right (lane_eq t.lane l) (item_eq t.item (DataItem n)) (and_left (lane_eq t.lane l && item_eq t.item (DataItem n)) (offset_eq t.received_offset None) h)

    facts_once : count_by (transmission_eq t) (facts_on net.site (seen net w v) l) ≤ 1
    facts_once =
        let one = count-map (transmission_eq t) tell (filter is_untold (owed (seen net w v) (receiver net.site l))) in
        let two = count_part is_untold (λ n. transmission_eq t (tell n)) (λ (n : Name). item_eq t.item (DataItem n)) (λ n k h. told n h) (owed (seen net w v) (receiver net.site l)) in
        let three = names_once t.item (receiver net.site l) in
        omega (arith, one, two, three)

    not_told : (offset : ℕ) → t.received_offset ≡ Some offset → (n : Name) → transmission_eq t (tell n) ≡ false
    not_told offset e n =
        ap (λ (o : Option ℕ). lane_eq t.lane l && item_eq t.item (DataItem n) && offset_eq o None) e ∙ and-false (lane_eq t.lane l && item_eq t.item (DataItem n))

    facts_none : (offset : ℕ) → t.received_offset ≡ Some offset → count_by (transmission_eq t) (facts_on net.site (seen net w v) l) ≡ 0
    facts_none offset e =
        count-map (transmission_eq t) tell (filter is_untold (owed (seen net w v) (receiver net.site l))) ∙
        counted_none (λ n. transmission_eq t (tell n)) (not_told offset e) (filter is_untold (owed (seen net w v) (receiver net.site l)))

    -- Lemmas on acknowledgements.

    no_answer : t.received_offset ≡ None → (a : PendingAck) → transmission_eq t (ack a) ≡ false
    no_answer e a =
        ap (λ (o : Option ℕ). lane_eq t.lane l && item_eq t.item (AckItem a.name) && offset_eq o (Some a.offset)) e ∙ and-false (lane_eq t.lane l && item_eq t.item (AckItem a.name))

    acks_none : t.received_offset ≡ None → count_by (transmission_eq t) (acks_on (seen net w v) l) ≡ 0
    acks_none e =
        count-map (transmission_eq t) ack (filter (λ (a : PendingAck). lane_eq a.lane (reverse_lane l)) (w.volatile v).pending_acks) ∙ counted_none (λ a. transmission_eq t (ack a)) (no_answer e) (filter (λ (a : PendingAck). lane_eq a.lane (reverse_lane l)) (w.volatile v).pending_acks)

    answer_at : (offset : ℕ) → t.received_offset ≡ Some offset → (a : PendingAck) → lane_eq a.lane (reverse_lane l) ≡ true → transmission_eq t (ack a) ≡ true →
        is_at (reverse_lane l, offset) (pending_place a) ≡ true
    answer_at offset e a k h =
        let same = and_right (lane_eq t.lane l && item_eq t.item (AckItem a.name)) (offset_eq t.received_offset (Some a.offset)) h in
        let is : offset ≡ a.offset = eq_from offset a.offset (ap (λ (o : Option ℕ). offset_eq o (Some a.offset)) (sym e) ∙ same) in
        and_both (lane_eq a.lane (reverse_lane l)) (a.offset == offset) k (ap (λ (n : ℕ). a.offset == n) is ∙ eq_same a.offset)

    acks_once : (offset : ℕ) → t.received_offset ≡ Some offset → count_by (transmission_eq t) (acks_on (seen net w v) l) ≤ 1
    acks_once offset e =
        let pending : List PendingAck = (w.volatile v).pending_acks in
        let place : Lane × ℕ = (reverse_lane l, offset) in
        let one = count-map (transmission_eq t) ack (filter (λ a. lane_eq a.lane (reverse_lane l)) pending) in
        let two = count_part (λ (a : PendingAck). lane_eq a.lane (reverse_lane l)) (λ a. transmission_eq t (ack a)) (λ a. is_at place (pending_place a)) (answer_at offset e) pending in
        let three = count-map (is_at place) pending_place pending in
        let four = first_places place (map pending_place pending) (filter_map answer_of (w.volatile v).window) (c.volatile v).once in
        omega (arith, one, two, three, four)

    both_once : (o : Option ℕ) → t.received_offset ≡ o → count_by (transmission_eq t) (acks_on (seen net w v) l ++ facts_on net.site (seen net w v) l) ≤ 1
    both_once None e =
        let both = count-append (transmission_eq t) (acks_on (seen net w v) l) (facts_on net.site (seen net w v) l) in
        let none = acks_none e in
        let once = facts_once in
        omega (arith, both, none, once)
    both_once (Some offset) e =
        let both = count-append (transmission_eq t) (acks_on (seen net w v) l) (facts_on net.site (seen net w v) l) in
        let none = facts_none offset e in
        let once = acks_once offset e in
        omega (arith, both, none, once)

    wanted_once : count_by (transmission_eq t) (wanted_on net.site (seen net w v) l) ≤ 1
    unfolding wanted_on
    wanted_once =
        let fewer = count_fewer (λ x. not (list_any (transmission_eq x) (w.volatile v).awaiting)) (transmission_eq t) (acks_on (seen net w v) l ++ facts_on net.site (seen net w v) l) in
        let once = both_once t.received_offset refl in
        omega (arith, fewer, once)

    lane_once : count_by (transmission_eq t) (orders_at net w v l) ≤ 1
    unfolding orders_on
    lane_once =
        let fewer = fits_fewer (transmission_eq t) (seen net w v).facts (received_of (port_at net w l)) (planned w l) (wanted_on net.site (seen net w v) l) in
        let once = wanted_once in
        omega (arith, fewer, once)

  none_there : (t : Transmission) (l : Lane) → lane_eq l t.lane ≡ false → (ts : List Transmission) → AllByRecursion (IsWanted net w v c l) ts → count_by (transmission_eq t) ts ≡ 0
  none_there t l away [] h = refl
  none_there t l away (x ∷ ts) h =
      let rest = none_there t l away ts h.1 in
      let more = count_more (transmission_eq t) x ts in
      let other : lane_eq t.lane x.lane ≡ false = ap (lane_eq t.lane) h.0.lane ∙ lane_eq-sym t.lane l ∙ away in
      let none = one_false (transmission_eq t x) (ap (λ (b : Bool). b && item_eq t.item x.item && offset_eq t.received_offset x.received_offset) other) in
      omega (arith, rest, more, none)

  pub order_once : (t : Transmission) → count_by (transmission_eq t) (wanted net w v) ≤ 1
  order_once t =
      once_by_lane (orders_at net w v) (transmission_eq t) t.lane (λ l away. none_there t l away (orders_at net w v l) (orders_wanted net w v c l)) (lane_once t t.lane) net.site v
      (lanes net w v) (outgoing_each net.site v (λ (l : Lane). w.link_up l.link))
