-- The items that a manager wants to send may be carried, and its acknowledgements are pending.
use Rattle.std.proofs.Common.{◌≡◌, ℕ, ◌+◌, Bool, true, false, not, ◌&&◌, List, [], ◌∷◌, ◌++◌, refl, sym, ◌∙◌, ap, subst, Option, Some, None}
use Rattle.std.specs.Prelude.{◌==◌, nat_lt, slice_get, filter, if◌then◌else◌}
use Rattle.std.specs.List.{list_any, AllByRecursion}
use Rattle.qkd_base.specs.Name.{Name, name_eq, has}
use Rattle.qkd_base.specs.Lane.{lane_eq, reverse_lane}
use Rattle.qkd_base.specs.Route.{next_after}
use Rattle.qkd_base.specs.declared.lane.Lane.{Lane}
use Rattle.net_model.specs.declared.fact.Fact.{Fact}
use Rattle.net_model.specs.Table.{name_of, route_of, fact_at, facts_of}
use Rattle.net_model.specs.Item.{DataItem, AckItem, need, is_data_of}
use Rattle.net_model.specs.Site.{sender, receiver}
use Rattle.net_model.specs.World.{Network, World, Transmission, PendingAck}
use Rattle.net_model.specs.Needed.{masked_fact}
use Rattle.net_model.specs.Knowledge.{MayCarry, IsAdjacent}
use Rattle.net_model.specs.Window.{is_pending_of}
use Rattle.net_model.specs.Relay.{is_some_of, owed}
use Rattle.net_model.specs.Plan.{acks_on, facts_on, wanted_on, that_fit}
use Rattle.net_model.specs.Windows.{IsShaped, is_same_ack, IsAwaitedAck}
use Rattle.net_model.specs.Invariant.{Conserved}
use Rattle.law_base.proofs.Base.{eq_from, eq_same, name_eq_same, lane_eq_from, and_left, and_both, lane_same}
use Rattle.law_base.proofs.Lists.{reverse_twice, mapped_at, kept_at, all_both, all_kept, all_made, any_of}
use Rattle.law_invariant.proofs.Outgoing.{sender_back}
use Rattle.law_invariant.proofs.Seen.{seen, known_at}
use Rattle.law_base.proofs.Masked.{masked_same, name_blind, route_blind}
use Rattle.law_base.proofs.Seen.{bare_view}

some_of : (o : Option ℕ) (n : ℕ) → is_some_of o n ≡ true → o ≡ Some n
some_of None n h = cc
some_of (Some m) n h = ap Some (eq_from m n h)

module _ (net : Network) (w : World) (v : ℕ) (c : Conserved net w) where
  -- The transmission is for this lane and has the form of its item. The item may be carried. An acknowledgement is
  -- one that is pending.
  pub record IsWanted (l : Lane) (t : Transmission) : Type 0 where
    pub lane : t.lane ≡ l
    pub shaped : IsShaped t
    pub carried : MayCarry w.durable.facts w.durable.known v (receiver net.site l) t.item
    pub awaited : IsAwaitedAck (w.volatile v) t t.received_offset

  abbrev pub AreWanted : Lane → List Transmission → Type 0
  AreWanted l ts = AllByRecursion (IsWanted l) ts

  abbrev ack : Lane → PendingAck → Transmission
  ack l a = record { lane = l; item = AckItem a.name; received_offset = Some a.offset }

  ack_wanted : (l : Lane) (i : ℕ) (a : PendingAck) → slice_get (w.volatile v).pending_acks i ≡ Some a → lane_eq a.lane (reverse_lane l) ≡ true → IsWanted l (ack l a)
  ack_wanted l i a at e =
      let is : a.lane ≡ reverse_lane l = lane_eq_from a.lane (reverse_lane l) e in
      let to : sender net.site a.lane ≡ receiver net.site l = ap (sender net.site) is ∙ sender_back net.site l in
      let back : l ≡ reverse_lane a.lane = sym (reverse_twice l) ∙ ap reverse_lane (sym is) in
      let answers : lane_eq l (reverse_lane a.lane) ≡ true = ap (lane_eq l) (sym back) ∙ lane_same l in
      record {
        lane = refl;
        shaped = refl;
        carried = subst (λ (u : ℕ). IsAdjacent w.durable.facts w.durable.known v u v a.name) to ((c.volatile v).pending i a at).fact;
        awaited = any_of (is_same_ack (ack l a)) (w.volatile v).pending_acks a i at
            (and_both (is_pending_of (ack l a) a) (name_eq a.name a.name) (and_both (lane_eq l (reverse_lane a.lane)) (a.offset == a.offset) answers (eq_same a.offset)) (name_eq_same a.name));
      }

  abbrev tell : Lane → Name → Transmission
  tell l n = record { lane = l; item = DataItem n; received_offset = None }

  pub owed_known : (to : ℕ) (i : ℕ) (n : Name) → slice_get (owed (seen net w v) to) i ≡ Some n → IsAdjacent w.durable.facts w.durable.known v v to n
  unfolding owed
  owed_known to i n at =
      let p : Fact → Bool = λ f. is_some_of (next_after (route_of f) v) to && not (has (w.durable.acked v) (name_of f)) in
      let named = mapped_at name_of (filter p (seen net w v).facts) n i at in
      let kept = kept_at p (seen net w v).facts named.0 i named.1 in
      let shown = mapped_at (masked_fact (bare_view net w v)) (facts_of w.durable.facts (w.durable.known v)) named.0 kept.0 kept.1 in
      let f : Fact = shown.0 in
      let there = known_at w.durable.facts (w.durable.known v) f kept.0 shown.1 in
      let name : name_of f ≡ n = sym (masked_same name_of name_blind (bare_view net w v) f) ∙ ap name_of shown.2 ∙ named.2 in
      let next : next_after (route_of named.0) v ≡ Some to = some_of (next_after (route_of named.0) v) to (and_left (is_some_of (next_after (route_of named.0) v) to) _ kept.2) in
      let route : route_of f ≡ route_of named.0 = sym (masked_same route_of route_blind (bare_view net w v) f) ∙ ap route_of shown.2 in
      record {
        fact = f;
        there = ap (fact_at w.durable.facts) (sym name) ∙ there.0;
        next = ap (λ (r : List ℕ). next_after r v) route ∙ next;
        knows = ap (has (w.durable.known v)) (sym name) ∙ there.1;
      }

  data_wanted : (l : Lane) (i : ℕ) (n : Name) → slice_get (owed (seen net w v) (receiver net.site l)) i ≡ Some n → IsWanted l (tell l n)
  data_wanted l i n at = record { lane = refl; shaped = refl; carried = owed_known (receiver net.site l) i n at; awaited = tt }

  pub all_wanted : (l : Lane) → AreWanted l (wanted_on net.site (seen net w v) l)
  unfolding wanted_on
  all_wanted l = all_kept (IsWanted l) _ (acks_on (seen net w v) l ++ facts_on net.site (seen net w v) l)
      (all_both (IsWanted l) (acks_on (seen net w v) l) (facts_on net.site (seen net w v) l)
      (all_made (IsWanted l) (ack l) (λ a. lane_eq a.lane (reverse_lane l)) (w.volatile v).pending_acks (λ i a at e. ack_wanted l i a at e))
      (all_made (IsWanted l) (tell l) (λ n. not (list_any (λ e. lane_eq e.transmission.lane l && is_data_of n e.transmission.item) (w.volatile v).window))
      (owed (seen net w v) (receiver net.site l)) (λ i n at e. data_wanted l i n at)))

  pub fitting : (l : Lane) (facts : List Fact) (got used : ℕ) (ts : List Transmission) → AreWanted l ts → AreWanted l (that_fit facts got used ts)
  fitting l facts got used [] h = tt
  fitting l facts got used (t ∷ ts) h =
      elim (nat_lt got (used + need facts t.item)) as (λ b. AreWanted l (if b then [] else t ∷ that_fit facts got (used + need facts t.item) ts)) [
        | true ↦ tt
        | false ↦ (h.0, fitting l facts got (used + need facts t.item) ts h.1)
      ]
