-- The orders of a plan are of known facts, and its batch has only leases.
use Rattle.std.proofs.Common.{◌≡◌, ℕ, ◌+◌, ◌≤◌, true, false, List, [], ◌∷◌, ◌++◌, refl, sym, ap, subst, ◌∙◌}
use Rattle.std.specs.Prelude.{◌&&◌, nat_lt, nat_le, Option, Some, None, if◌then◌else◌}
use Rattle.std.specs.List.{flat_map, AllByRecursion}
use Rattle.std.proofs.lemmas.List.Concat.{flat_map-cons}
use Rattle.qkd_base.specs.Name.{Name}
use Rattle.qkd_base.specs.Lane.{lane_eq}
use Rattle.net_model.specs.declared.fact.Fact.{Fact}
use Rattle.net_model.specs.declared.order.Order.{Order}
use Rattle.net_model.specs.declared.record.Record.{Record}
use Rattle.net_model.specs.declared.record.Record.TheVariants.{Block, Lease, Learned, Acked, Handed, Closed, Bare}
use Rattle.net_model.specs.Item.{Item, DataItem, AckItem, payload, data_payload, need, len_or_zero}
use Rattle.net_model.specs.Table.{fact_at, name_of}
use Rattle.net_model.specs.Site.{Site}
use Rattle.net_model.specs.World.{Transmission, needs}
use Rattle.net_model.specs.View.{View, Port, received_of}
use Rattle.net_model.specs.Fold.{on_lane, with_lease}
use Rattle.net_model.specs.Plan.{orders_on, spelled_order, spelled_orders, leases_on, end_on, raise}
use Rattle.law_base.proofs.Tables.{found_name}
use Rattle.kme_base.specs.Places.{AreOf}
use Rattle.kme_node.specs.Places.{HaveBytes}
use Rattle.kme_node.specs.Ports.{ports_by, ports_after}

-- an order needs as many bytes as its item
of_one : (facts : List Fact) (t : Transmission) (used : ℕ) → AreOf facts (spelled_order t used (payload facts t.item))
of_one facts t used = by_item t.item
  where
    by_fact : (n : Name) (o : Option Fact) → fact_at facts n ≡ o → AreOf facts (spelled_order t used (data_payload o))
    by_fact n None e = tt
    by_fact n (Some f) e =
        let named = found_name facts n f e in
        let found : fact_at facts (name_of f) ≡ Some f = ap (fact_at facts) named ∙ e in
        (ap (λ (o : Option Fact). len_or_zero (data_payload o) + 8) found, tt)

    by_item : (i : Item) → AreOf facts (spelled_order t used (payload facts i))
    by_item (DataItem n) = by_fact n (fact_at facts n) refl
    by_item (AckItem n) = (refl, tt)

of_append : (facts : List Fact) (xs ys : List Order) → AreOf facts xs → AreOf facts ys → AreOf facts (xs ++ ys)
of_append facts [] ys a b = b
of_append facts (x ∷ xs) ys a b = (a.0, of_append facts xs ys a.1 b)

of_all : (facts : List Fact) (used : ℕ) (ts : List Transmission) → AreOf facts (spelled_orders facts used ts)
of_all facts used [] = tt
of_all facts used (t ∷ ts) = of_append facts (spelled_order t used (payload facts t.item)) (spelled_orders facts (used + need facts t.item) ts) (of_one facts t used) (of_all facts (used + need facts t.item) ts)

module _ (site : Site) (v : View) where
  pub plan_spells : (ports : List Port) → AreOf v.facts (flat_map (λ (p : Port). spelled_orders v.facts p.planned (orders_on site v p)) ports)
  plan_spells [] = tt
  plan_spells (p ∷ ps) =
      subst (AreOf v.facts) (sym (flat_map-cons (λ (q : Port). spelled_orders v.facts q.planned (orders_on site v q)) p ps))
      (of_append v.facts (spelled_orders v.facts p.planned (orders_on site v p)) _ (of_all v.facts p.planned (orders_on site v p)) (plan_spells ps))

  -- leases change neither blocks nor planned bytes
  abbrev IsLease : Record → Type 0
  IsLease (Lease lane end) = Unit {0}
  IsLease _ = ⊥

  abbrev AreLeases : List Record → Type 0
  AreLeases rs = AllByRecursion IsLease rs

  leases_append : (xs ys : List Record) → AreLeases xs → AreLeases ys → AreLeases (xs ++ ys)
  leases_append [] ys a b = b
  leases_append (x ∷ xs) ys a b = (a.0, leases_append xs ys a.1 b)

  one_lease : (p : Port) → AreLeases (leases_on site v p)
  one_lease p = elim (nat_lt p.lease (end_on site v p)) as (λ t. AreLeases (if t then Lease p.lane (raise (end_on site v p) (received_of p)) ∷ [] else [])) [ true ↦ (tt, tt) | false ↦ tt ]

  pub plan_leases : (ports : List Port) → AreLeases (flat_map (leases_on site v) ports)
  plan_leases [] = tt
  plan_leases (p ∷ ps) = subst AreLeases (sym (flat_map-cons (leases_on site v) p ps)) (leases_append (leases_on site v p) _ (one_lease p) (plan_leases ps))

  bytes_lease : (facts : List Fact) (orders : List Transmission) (r : Record) (ports : List Port) → IsLease r → HaveBytes facts orders ports → HaveBytes facts orders (ports_by r ports)
  bytes_lease facts orders (Lease lane end) [] is have = tt
  bytes_lease facts orders (Lease lane end) (p ∷ ps) is have = (same p have.0, bytes_lease facts orders (Lease lane end) ps is have.1)
    where
      same : (p : Port) → p.planned + needs facts (on_lane p.lane orders) ≤ received_of p →
          (with_lease lane end p).planned + needs facts (on_lane (with_lease lane end p).lane orders) ≤ received_of (with_lease lane end p)
      same p h = elim (lane_eq p.lane lane && nat_le p.lease end && nat_le end (received_of p)) as (λ t. (if t then record p { lease = end } else p).planned + needs facts (on_lane (if t then record p { lease = end } else p).lane orders) ≤ received_of (if t then record p { lease = end } else p)) [ true ↦ h | false ↦ h ]
  bytes_lease facts orders (Block _ _ _) ports is have = elim is [ ]
  bytes_lease facts orders (Learned _) ports is have = elim is [ ]
  bytes_lease facts orders (Acked _) ports is have = elim is [ ]
  bytes_lease facts orders (Handed _ _) ports is have = elim is [ ]
  bytes_lease facts orders (Closed _ _) ports is have = elim is [ ]
  bytes_lease facts orders (Bare _) ports is have = elim is [ ]

  pub bytes_leases : (facts : List Fact) (orders : List Transmission) (rs : List Record) (ports : List Port) → AreLeases rs → HaveBytes facts orders ports → HaveBytes facts orders (ports_after rs ports)
  bytes_leases facts orders [] ports are have = have
  bytes_leases facts orders (r ∷ rs) ports are have = bytes_leases facts orders rs (ports_by r ports) are.1 (bytes_lease facts orders r ports are.0 have)
