-- The orders of a plan have the table's payloads: a node that owes a fact still has the fact's bytes.
use Rattle.std.proofs.Common.{◌≡◌, ℕ, ◌+◌, true, false, not, ◌&&◌, List, [], ◌∷◌, ◌++◌, map, refl, sym, ◌∙◌, ap, subst, Option, Some, None}
use Rattle.std.specs.Prelude.{is_some, nat_lt, filter, slice_get, if◌then◌else◌, Bool}
use Rattle.std.specs.List.{list_any, AllByRecursion}
use Rattle.qkd_base.specs.Name.{Name, has}
use Rattle.qkd_base.specs.Lane.{lane_eq, reverse_lane}
use Rattle.qkd_base.specs.Route.{next_after}
use Rattle.qkd_base.specs.declared.lane.Lane.{Lane}
use Rattle.net_model.specs.declared.fact.Fact.{Fact}
use Rattle.net_model.specs.declared.order.Order.{Order}
use Rattle.net_model.specs.declared.payload.Payload.{Payload}
use Rattle.net_model.specs.declared.payload.Payload.TheVariants.{Data, Ack}
use Rattle.net_model.specs.Table.{name_of, route_of, without_bytes, fact_at, facts_of}
use Rattle.net_model.specs.Item.{Item, DataItem, AckItem, need, payload, data_payload, is_data_of}
use Rattle.net_model.specs.Site.{receiver}
use Rattle.net_model.specs.World.{Network, World, Transmission, PendingAck, planned}
use Rattle.net_model.specs.Needed.{is_owed, is_needed, masked_fact, port_at}
use Rattle.net_model.specs.View.{received_of}
use Rattle.net_model.specs.Relay.{is_some_of, owed}
use Rattle.net_model.specs.Plan.{acks_on, facts_on, wanted_on, that_fit, orders_on, spelled_order, spelled_orders}
use Rattle.net_model.specs.Tick.{item_in, ordered}
use Rattle.law_base.proofs.Base.{and_left, and_right, and_both, or_left, when_true}
use Rattle.law_base.proofs.Tables.{found_name}
use Rattle.law_base.proofs.Lists.{mapped_at, kept_at, all_both, all_kept, all_made}
use Rattle.law_base.proofs.Masked.{masked_same, name_blind, route_blind}
use Rattle.law_base.proofs.Seen.{Sees, bare_view, seen_there}
use Rattle.law_invariant.proofs.Seen.{seen, known_at}

is_some_by : (o : Option ℕ) (n : ℕ) → is_some_of o n ≡ true → is_some o ≡ true
is_some_by None n h = cc
is_some_by (Some m) n h = refl

-- The payload that is made for an item names that item.
data_named : (facts : List Fact) (n : Name) (o : Option Fact) (p : Payload) → fact_at facts n ≡ o → data_payload o ≡ Some p → item_in p ≡ DataItem n
data_named facts n None p e h = cc
data_named facts n (Some f) p e h =
    let is : Data f ≡ p = cc in
    ap item_in (sym is) ∙ ap DataItem (found_name facts n f e)

item_back : (facts : List Fact) (i : Item) (p : Payload) → payload facts i ≡ Some p → item_in p ≡ i
item_back facts (AckItem n) p h = let is : Ack n ≡ p = cc in ap item_in (sym is)
item_back facts (DataItem n) p h = data_named facts n (fact_at facts n) p refl h

module _ (net : Network) (w : World) (v : ℕ) where
  abbrev facts : List Fact
  facts = w.durable.facts

  -- The transmission is for this lane, and the manager sees the payload that the table has for it.
  pub record IsSpelled (l : Lane) (t : Transmission) : Type 0 where
    pub lane : t.lane ≡ l
    pub word : Payload
    pub shown : payload (seen net w v).facts t.item ≡ Some word
    pub there : payload facts t.item ≡ Some word

  sees : Sees net.site w.durable (seen net w v) (bare_view net w v)
  sees = record { facts = refl; handed = refl; acked = refl; bare_me = refl; bare_facts = refl; bare_acked = refl; bare_handed = refl }

  -- A fact that is owed isn't masked.
  unmasked : (f : Fact) → is_owed (bare_view net w v) f ≡ true → masked_fact (bare_view net w v) f ≡ f
  unfolding is_needed
  unmasked f h = when_true (is_needed (bare_view net w v) f) f (without_bytes f) (or_left (is_owed (bare_view net w v) f) _ h)

  abbrev tell : Lane → Name → Transmission
  tell l n = record { lane = l; item = DataItem n; received_offset = None }

  owed_spelled : (l : Lane) (to i : ℕ) (n : Name) → slice_get (owed (seen net w v) to) i ≡ Some n → IsSpelled l (tell l n)
  unfolding owed
  owed_spelled l to i n at =
      let p : Fact → Bool = λ f. is_some_of (next_after (route_of f) v) to && not (has (w.durable.acked v) (name_of f)) in
      let named = mapped_at name_of (filter p (seen net w v).facts) n i at in
      let kept = kept_at p (seen net w v).facts named.0 i named.1 in
      let shown = mapped_at (masked_fact (bare_view net w v)) (facts_of facts (w.durable.known v)) named.0 kept.0 kept.1 in
      let f : Fact = shown.0 in
      let there = known_at facts (w.durable.known v) f kept.0 shown.1 in
      let name : name_of f ≡ name_of named.0 = sym (masked_same name_of name_blind (bare_view net w v) f) ∙ ap name_of shown.2 in
      let route : route_of f ≡ route_of named.0 = sym (masked_same route_of route_blind (bare_view net w v) f) ∙ ap route_of shown.2 in
      let next : is_some (next_after (route_of f) v) ≡ true =
      ap (λ (r : List ℕ). is_some (next_after r v)) route ∙ is_some_by (next_after (route_of named.0) v) to (and_left (is_some_of (next_after (route_of named.0) v) to) _ kept.2) in
      let open' : not (has (w.durable.acked v) (name_of f)) ≡ true =
      ap (λ (m : Name). not (has (w.durable.acked v) m)) name ∙ and_right (is_some_of (next_after (route_of named.0) v) to) _ kept.2 in
      let whole = unmasked f (and_both (is_some (next_after (route_of f) v)) (not (has (w.durable.acked v) (name_of f))) next open') in
      let is : name_of f ≡ n = name ∙ named.2 in
      let found : fact_at facts n ≡ Some f = ap (fact_at facts) (sym is) ∙ there.0 in
      let knows : has (w.durable.known v) n ≡ true = ap (has (w.durable.known v)) (sym is) ∙ there.1 in
      record {
        lane = refl;
        word = Data f;
        shown = ap data_payload (seen_there net.site w.durable (seen net w v) (bare_view net w v) sees n f found knows ∙ ap Some whole);
        there = ap data_payload found;
      }

  abbrev ack : Lane → PendingAck → Transmission
  ack l a = record { lane = l; item = AckItem a.name; received_offset = Some a.offset }

  all_spelled : (l : Lane) → AllByRecursion (IsSpelled l) (wanted_on net.site (seen net w v) l)
  unfolding wanted_on
  all_spelled l =
      all_kept (IsSpelled l) _ (acks_on (seen net w v) l ++ facts_on net.site (seen net w v) l)
      (all_both (IsSpelled l) (acks_on (seen net w v) l) (facts_on net.site (seen net w v) l)
      (all_made (IsSpelled l) (ack l) (λ a. lane_eq a.lane (reverse_lane l)) (w.volatile v).pending_acks
      (λ i a at e. record { lane = refl; word = Ack a.name; shown = refl; there = refl }))
      (all_made (IsSpelled l) (tell l) (λ n. not (list_any (λ e. lane_eq e.transmission.lane l && is_data_of n e.transmission.item) (w.volatile v).window))
      (owed (seen net w v) (receiver net.site l)) (λ i n at e. owed_spelled l (receiver net.site l) i n at)))

  fitting : (l : Lane) (got used : ℕ) (ts : List Transmission) → AllByRecursion (IsSpelled l) ts → AllByRecursion (IsSpelled l) (that_fit (seen net w v).facts got used ts)
  fitting l got used [] h = tt
  fitting l got used (t ∷ ts) h =
      elim (nat_lt got (used + need (seen net w v).facts t.item)) as
      (λ b. AllByRecursion (IsSpelled l) (if b then [] else t ∷ that_fit (seen net w v).facts got (used + need (seen net w v).facts t.item) ts)) [
        | true ↦ tt
        | false ↦ (h.0, fitting l got (used + need (seen net w v).facts t.item) ts h.1)
      ]

  -- The orders of a lane in the form in which they wait, and in the form in which the reply has them.

  abbrev pub orders_at : Lane → List Transmission
  orders_at l = orders_on net.site (seen net w v) (port_at net w l)

  abbrev pub replied_at : Lane → List Order
  replied_at l = spelled_orders (seen net w v).facts (planned w l) (orders_at l)

  orders_spelled : (l : Lane) → AllByRecursion (IsSpelled l) (orders_at l)
  unfolding orders_on
  orders_spelled l = fitting l (received_of (port_at net w l)) (planned w l) (wanted_on net.site (seen net w v) l) (all_spelled l)

  pub record IsReplied (l : Lane) (o : Order) : Type 0 where
    pub lane : o.lane ≡ l
    pub spelled : payload facts (item_in o.payload) ≡ Some o.payload

  pub record AreReplied (l : Lane) (ts : List Transmission) (os : List Order) : Type 0 where
    pub ordered : map ordered os ≡ ts
    pub each : AllByRecursion (IsReplied l) os

  replied_one : (l : Lane) (used : ℕ) (t : Transmission) (ts : List Transmission) (os : List Order) → IsSpelled l t → AreReplied l ts os →
      AreReplied l (t ∷ ts) (spelled_order t used (payload (seen net w v).facts t.item) ++ os)
  replied_one l used t ts os h rest =
      let item : item_in h.word ≡ t.item = item_back facts t.item h.word h.there in
      subst (λ (p : Option Payload). AreReplied l (t ∷ ts) (spelled_order t used p ++ os)) (sym h.shown)
      (record { ordered = λ i. record t { item = item i } ∷ rest.ordered i; each = (record { lane = h.lane; spelled = ap (payload facts) item ∙ h.there }, rest.each) })

  replied : (l : Lane) (used : ℕ) (ts : List Transmission) → AllByRecursion (IsSpelled l) ts → AreReplied l ts (spelled_orders (seen net w v).facts used ts)
  replied l used [] h = record { ordered = refl; each = tt }
  replied l used (t ∷ ts) h = replied_one l used t ts _ h.0 (replied l (used + need (seen net w v).facts t.item) ts h.1)

  pub lane_replied : (l : Lane) → AreReplied l (orders_at l) (replied_at l)
  lane_replied l = replied l (planned w l) (orders_at l) (orders_spelled l)
