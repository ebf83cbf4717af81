-- The leases of a plan, and the planned ends after its orders, are what the view makes of them.
use Rattle.std.proofs.Common.{◌≡◌, ℕ, ◌+◌, Bool, true, false, List, [], ◌∷◌, ◌++◌, refl, sym, ◌∙◌, ap, subst, arith, Some}
use Rattle.std.specs.Prelude.{nat_lt, filter, slice_get, if◌then◌else◌}
use Rattle.std.specs.List.{flat_map}
use Rattle.qkd_base.specs.Lane.{lane_eq}
use Rattle.qkd_base.specs.declared.lane.Lane.{Lane}
use Rattle.net_model.specs.declared.fact.Fact.{Fact}
use Rattle.net_model.specs.declared.record.Record.{Record}
use Rattle.net_model.specs.declared.record.Record.TheVariants.{Lease}
use Rattle.net_model.specs.declared.event.Event.TheVariants.{Plan}
use Rattle.net_model.specs.Site.{Site, receiver}
use Rattle.net_model.specs.World.{Network, World, Durable, Transmission, needs}
use Rattle.net_model.specs.Knowledge.{MayCarry}
use Rattle.net_model.specs.Records.{apply_record, replay}
use Rattle.net_model.specs.Invariant.{Conserved}
use Rattle.net_model.specs.View.{View, Port, received_of}
use Rattle.net_model.specs.Needed.{view_of}
use Rattle.net_model.specs.Decision.{Does, Effect}
use Rattle.net_model.specs.Decide.{decide}
use Rattle.net_model.specs.Plan.{leases_on, end_on, plan, raise}
use Rattle.net_model.specs.Handle.{with_orders, commit}
use Rattle.net_model.specs.Fold.{on_lane, view_after, view_record}
use Rattle.law_invariant.specs.May.{decided}
use Rattle.law_base.proofs.Base.{lane_eq_from}
use Rattle.law_base.proofs.Lists.{kept_at, all_from}
use Rattle.law_invariant.proofs.Seen.{seen_is, needs_seen}
use Rattle.law_invariant.proofs.Orders.{on, with_orders_is, plan_may, plan_order_at, needs-append}
use Rattle.law_recovery.specs.Fitting.{AllFit}
use Rattle.law_recovery.proofs.Batches.{AllFitHere, here_fits}
use Rattle.law_recovery.proofs.Commits.{commit_goes}

-- All records of the batch are leases.

abbrev IsLease : Record → Type 0
IsLease (Lease l end) = Unit {0}
IsLease _ = ⊥

abbrev AreLeases : List Record → Type 0
AreLeases [] = Unit {0}
AreLeases (r ∷ rs) = IsLease r × AreLeases rs

leases_fit : (rs : List Record) → AreLeases rs → (a : View) → AllFitHere a rs
leases_fit [] h a = tt
leases_fit (Lease l end ∷ rs) h a = (tt, leases_fit rs h.1 (view_record (Lease l end) a))
leases_fit (_ ∷ rs) h a = absurd h.0

same_table : (s : Site) (v : ℕ) (rs : List Record) → AreLeases rs → (d : Durable) → (replay s v rs d).facts ≡ d.facts
unfolding replay apply_record
same_table s v [] h d = refl
same_table s v (Lease l end ∷ rs) h d = same_table s v rs h.1 (apply_record s v (Lease l end) d)
same_table s v (_ ∷ rs) h d = absurd h.0

are_leases : (site : Site) (v : View) (ps : List Port) → AreLeases (flat_map (leases_on site v) ps)
are_leases site v [] = tt
are_leases site v (p ∷ ps) =
    elim (nat_lt p.lease (end_on site v p)) as (λ t. AreLeases ((if t then Lease p.lane (raise (end_on site v p) (received_of p)) ∷ [] else []) ++ flat_map (leases_on site v) ps)) [
      | true ↦ (tt, are_leases site v ps)
      | false ↦ are_leases site v ps
    ]

plan_leases : (site : Site) (up : ℕ → Bool) (v : View) → AreLeases (plan site up v).batch
unfolding plan
plan_leases site up v = are_leases site v (filter (λ (p : Port). up p.lane.link) v.ports)

-- The orders need as many bytes as the view says.

module _ (net : Network) (w : World) (v : ℕ) (c : Conserved net w) where
  abbrev planned : Effect
  planned = plan net.site w.link_up (view_of net w v)

  may_carry : (l : Lane) (j : ℕ) (t : Transmission) → slice_get (on l planned.orders) j ≡ Some t → MayCarry w.durable.facts w.durable.known v (receiver net.site l) t.item
  may_carry l j t h =
      let r = kept_at (λ (x : Transmission). lane_eq x.lane l) planned.orders t j h in
      let order = plan_order_at net w v c r.0 t r.1 in
      subst (λ (k : Lane). MayCarry w.durable.facts w.durable.known v (receiver net.site k) t.item) (lane_eq_from t.lane l r.2)
      (subst (λ (u : ℕ). MayCarry w.durable.facts w.durable.known u (receiver net.site t.lane) t.item) order.at order.carried)

  seen_needs : (l : Lane) → needs (view_of net w v).facts (on l planned.orders) ≡ needs w.durable.facts (on l planned.orders)
  seen_needs l =
      ap (λ (x : View). needs x.facts (on l planned.orders)) (seen_is net w v) ∙
      needs_seen net w v (receiver net.site l) (on l planned.orders)
      (all_from (λ (t : Transmission). MayCarry w.durable.facts w.durable.known v (receiver net.site l) t.item) (on l planned.orders) (may_carry l))

  orders_fit : (l : Lane) → needs (replay net.site v planned.batch w.durable).facts (with_orders planned.orders w.unclaimed l) ≡
      needs (replay net.site v planned.batch w.durable).facts (w.unclaimed l) + needs (view_of net w v).facts (on_lane l planned.orders)
  orders_fit l =
      let table = same_table net.site v planned.batch (plan_leases net.site w.link_up (view_of net w v)) w.durable in
      let all = ap (needs w.durable.facts) (with_orders_is planned.orders w.unclaimed l) ∙ needs-append w.durable.facts (w.unclaimed l) (on l planned.orders) in
      let mine = seen_needs l in
      let same : needs w.durable.facts (with_orders planned.orders w.unclaimed l) ≡
      needs w.durable.facts (w.unclaimed l) + needs (view_of net w v).facts (on_lane l planned.orders) =
      omega (arith, all, mine) in
      subst (λ (T : List Fact). needs T (with_orders planned.orders w.unclaimed l) ≡ needs T (w.unclaimed l) + needs (view_of net w v).facts (on_lane l planned.orders)) (sym table) same

  plan_goes : (octets : ℕ) → view_of net (commit net.site w v octets planned) v ≡ view_after (view_of net w v) planned
  plan_goes octets =
      commit_goes net w v octets planned c (plan_may net w v c)
      (here_fits net planned.batch (view_of net w v) (leases_fit planned.batch (plan_leases net.site w.link_up (view_of net w v)) (view_of net w v))) orders_fit

  pub planned_goes : (octets : ℕ) (e : Effect) → decided net w v Plan ≡ Does e → view_of net (commit net.site w v octets e) v ≡ view_after (view_of net w v) e
  unfolding decide
  planned_goes octets e h =
      let is : planned ≡ e = cc in
      subst (λ (x : Effect). view_of net (commit net.site w v octets x) v ≡ view_after (view_of net w v) x) is (plan_goes octets)

  pub planned_fits : (e : Effect) → decided net w v Plan ≡ Does e → AllFit net (view_of net w v) e.batch
  unfolding decide
  planned_fits e h =
      let is : planned ≡ e = cc in
      subst (λ (x : Effect). AllFit net (view_of net w v) x.batch) is
      (here_fits net planned.batch (view_of net w v) (leases_fit planned.batch (plan_leases net.site w.link_up (view_of net w v)) (view_of net w v)))
