-- A node's view after an effect is what the effect makes of the view before.
use Rattle.std.proofs.Common.{◌≡◌, ℕ, ◌+◌, List, [], ◌∷◌, length, refl, sym, ◌∙◌, ap, arith, map}
use Rattle.qkd_base.specs.declared.lane.Lane.{Lane}
use Rattle.net_model.specs.Site.{outgoing_lanes}
use Rattle.net_model.specs.World.{Network, World, Durable, Transmission, needs}
use Rattle.net_model.specs.Records.{replay}
use Rattle.net_model.specs.Doubt.{MayReplay}
use Rattle.net_model.specs.Invariant.{Conserved}
use Rattle.net_model.specs.View.{View, Port}
use Rattle.net_model.specs.Needed.{is_needed, masked, view_of, port_at}
use Rattle.net_model.specs.Decision.{Effect}
use Rattle.net_model.specs.Handle.{with_orders, commit}
use Rattle.net_model.specs.Fold.{view_records, on_lane, view_after}
use Rattle.law_base.proofs.Base.{number_set_same}
use Rattle.law_recovery.proofs.Shapes.{masked_like}
use Rattle.law_recovery.proofs.Following.{Follows, follows_like, seen}
use Rattle.law_recovery.specs.Fitting.{AllFit}
use Rattle.law_recovery.proofs.Batches.{batch_follows, view_follows}

module _ (net : Network) (w : World) (v octets : ℕ) (e : Effect) where
  -- The orders need as many bytes as the view says.
  abbrev pub OrdersFit : Type 0
  OrdersFit = (l : Lane) → needs (replay net.site v e.batch w.durable).facts (with_orders e.orders w.unclaimed l) ≡
      needs (replay net.site v e.batch w.durable).facts (w.unclaimed l) + needs (view_of net w v).facts (on_lane l e.orders)

  abbrev planned_more : Port → Port
  planned_more p = record p { planned = p.planned + needs (view_of net w v).facts (on_lane p.lane e.orders) }

  ports_go : OrdersFit → (ls : List Lane) → map (port_at net (commit net.site w v octets e)) ls ≡
      map planned_more (map (port_at net (record w { durable = replay net.site v e.batch w.durable })) ls)
  unfolding commit
  ports_go fit [] = refl
  ports_go fit (l ∷ ls) =
      let d : Durable = replay net.site v e.batch w.durable in
      let h = fit l in
      let one : length (d.own l) + needs d.facts (with_orders e.orders w.unclaimed l) ≡ (length (d.own l) + needs d.facts (w.unclaimed l)) + needs (view_of net w v).facts (on_lane l e.orders) =
      omega (arith, h) in
      let rest = ports_go fit ls in
      λ i. record (port_at net (record w { durable = d }) l) { planned = one i } ∷ rest i

  goes : Follows (view_records e.batch (view_of net w v)) (seen net w v (replay net.site v e.batch w.durable)) →
      map (port_at net (commit net.site w v octets e)) (outgoing_lanes net.site v) ≡
      map planned_more (view_records e.batch (view_of net w v)).ports → view_of net (commit net.site w v octets e) v ≡ view_after (view_of net w v) e
  unfolding view_of masked view_after commit is_needed
  goes h all =
      let a : View = view_records e.batch (view_of net w v) in
      let b : View = seen net w v (replay net.site v e.batch w.durable) in
      let me = sym h.me in
      let facts = sym (masked_like a b (follows_like a b h) a.facts ∙ h.facts) in
      let acked = sym h.acked in
      let handed = sym h.handed in
      let closed = sym h.closed in
      let volatile = number_set_same w.volatile v e.volatile in
      λ i. record { me = me i; facts = facts i; acked = acked i; handed = handed i; closed = closed i; ports = all i; volatile = volatile i }

  pub commit_goes : Conserved net w → MayReplay net.site w.durable v e.batch → AllFit net (view_of net w v) e.batch → OrdersFit →
      view_of net (commit net.site w v octets e) v ≡ view_after (view_of net w v) e
  commit_goes c may fits orders =
      let h = batch_follows net w v e.batch w.durable c.now (view_of net w v) may fits (view_follows net w v) in
      goes h (ports_go orders (outgoing_lanes net.site v) ∙ ap (map planned_more) (sym h.ports))

  no_orders : (os : List Transmission) → os ≡ [] → (l : Lane) → needs (replay net.site v e.batch w.durable).facts (with_orders os w.unclaimed l) ≡
      needs (replay net.site v e.batch w.durable).facts (w.unclaimed l) + needs (view_of net w v).facts (on_lane l os)
  no_orders [] h l = omega arith
  no_orders (o ∷ os) h l = cc

  pub silent_goes : Conserved net w → MayReplay net.site w.durable v e.batch → AllFit net (view_of net w v) e.batch → e.orders ≡ [] →
      view_of net (commit net.site w v octets e) v ≡ view_after (view_of net w v) e
  silent_goes c may fits none = commit_goes c may fits (λ l. no_orders e.orders none l)
