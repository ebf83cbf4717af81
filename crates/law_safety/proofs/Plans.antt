-- A plan acknowledges only what is pending.
use Rattle.std.proofs.Common.{◌≡◌, ℕ, ◌+◌, Bool, true, false, not, ◌&&◌, List, [], ◌∷◌, ◌++◌, sym, ◌∙◌, ap, subst, Some, None}
use Rattle.std.specs.Prelude.{nat_lt, filter, if◌then◌else◌}
use Rattle.std.specs.List.{list_any, flat_map, AllByRecursion}
use Rattle.qkd_base.specs.Name.{Name, name_eq}
use Rattle.qkd_base.specs.Lane.{lane_eq, reverse_lane}
use Rattle.qkd_base.specs.declared.lane.Lane.{Lane}
use Rattle.net_model.specs.declared.fact.Fact.{Fact}
use Rattle.net_model.specs.Item.{DataItem, AckItem, need, is_data_of}
use Rattle.net_model.specs.Site.{Site, receiver}
use Rattle.net_model.specs.World.{Transmission, Entry, PendingAck}
use Rattle.net_model.specs.View.{View, Port, received_of}
use Rattle.net_model.specs.Relay.{owed}
use Rattle.net_model.specs.Window.{is_pending_of, transmission_eq}
use Rattle.net_model.specs.Windows.{IsAwaitedAck, is_same_ack}
use Rattle.net_model.specs.Plan.{acks_on, facts_on, wanted_on, that_fit, orders_on, plan}
use Rattle.law_base.proofs.Base.{eq_same, name_eq_same, lane_eq_from, and_both, lane_same}
use Rattle.law_base.proofs.Lists.{reverse_twice, any_of, all_both, all_kept, all_made}
use Rattle.law_safety.specs.Life.{AreOfPending}

module _ (v : View) where
  abbrev IsPendingOrFact : Transmission → Type 0
  IsPendingOrFact t = IsAwaitedAck v.volatile t t.received_offset

  abbrev ack_to : Lane → PendingAck → Transmission
  ack_to l a = record { lane = l; item = AckItem a.name; received_offset = Some a.offset }

  is_its_own : (l : Lane) (a : PendingAck) → lane_eq a.lane (reverse_lane l) ≡ true → is_same_ack (ack_to l a) a ≡ true
  is_its_own l a h =
      let back : reverse_lane a.lane ≡ l = ap reverse_lane (lane_eq_from a.lane (reverse_lane l) h) ∙ reverse_twice l in
      and_both (is_pending_of (ack_to l a) a) (name_eq a.name a.name)
      (and_both (lane_eq l (reverse_lane a.lane)) _ (subst (λ (k : Lane). lane_eq l k ≡ true) (sym back) (lane_same l)) (eq_same a.offset)) (name_eq_same a.name)

  acks : (l : Lane) → AllByRecursion IsPendingOrFact (acks_on v l)
  acks l = all_made IsPendingOrFact (ack_to l) (λ (a : PendingAck). lane_eq a.lane (reverse_lane l)) v.volatile.pending_acks
      (λ i a at is. any_of (is_same_ack (ack_to l a)) v.volatile.pending_acks a i at (is_its_own l a is))

  facts : (site : Site) (l : Lane) → AllByRecursion IsPendingOrFact (facts_on site v l)
  facts site l = all_made IsPendingOrFact (λ (n : Name). record { lane = l; item = DataItem n; received_offset = None })
      (λ (n : Name). not (list_any (λ (e : Entry). lane_eq e.transmission.lane l && is_data_of n e.transmission.item) v.volatile.window)) (owed v (receiver site l)) (λ i n at is. tt)

  wanted : (site : Site) (l : Lane) → AllByRecursion IsPendingOrFact (wanted_on site v l)
  unfolding wanted_on
  wanted site l = all_kept IsPendingOrFact (λ (t : Transmission). not (list_any (transmission_eq t) v.volatile.awaiting)) (acks_on v l ++ facts_on site v l)
      (all_both IsPendingOrFact (acks_on v l) (facts_on site v l) (acks l) (facts site l))

  fitting : (known : List Fact) (received used : ℕ) (ts : List Transmission) → AllByRecursion IsPendingOrFact ts → AllByRecursion IsPendingOrFact (that_fit known received used ts)
  fitting known received used [] h = tt
  fitting known received used (t ∷ ts) h =
      elim (nat_lt received (used + need known t.item)) as (λ b. AllByRecursion IsPendingOrFact (if b then [] else t ∷ that_fit known received (used + need known t.item) ts)) [
        | true ↦ tt
        | false ↦ (h.0, fitting known received (used + need known t.item) ts h.1)
      ]

  ordered : (site : Site) (p : Port) → AllByRecursion IsPendingOrFact (orders_on site v p)
  unfolding orders_on
  ordered site p = fitting v.facts (received_of p) p.planned (wanted_on site v p.lane) (wanted site p.lane)

  all_ordered : (site : Site) (ps : List Port) → AllByRecursion IsPendingOrFact (flat_map (orders_on site v) ps)
  all_ordered site [] = tt
  all_ordered site (p ∷ ps) = all_both IsPendingOrFact (orders_on site v p) (flat_map (orders_on site v) ps) (ordered site p) (all_ordered site ps)

pub of_pending : (site : Site) (is_up : ℕ → Bool) (v : View) → AreOfPending v.volatile (plan site is_up v).orders
unfolding plan
of_pending site is_up v = all_ordered v site (filter (λ (p : Port). is_up p.lane.link) v.ports)
