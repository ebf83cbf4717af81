-- The plan of a tick fits the manager.
use Rattle.std.proofs.Common.{◌≡◌, ℕ, ◌+◌, ◌≤◌, Bool, List, [], ◌∷◌, map, filter, sym, ap, subst, ◌∙◌}
use Rattle.std.specs.Prelude.{IfOk, Result, Ok, Err}
use Rattle.std.specs.List.{flat_map}
use Rattle.net_model.specs.declared.fact.Fact.{Fact}
use Rattle.net_model.specs.declared.order.Order.{Order}
use Rattle.net_model.specs.declared.reply.Reply.{Reply}
use Rattle.net_model.specs.Site.{Site}
use Rattle.net_model.specs.World.{Transmission, needs}
use Rattle.net_model.specs.View.{Port, received_of}
use Rattle.net_model.specs.Decision.{Does}
use Rattle.net_model.specs.Fold.{on_lane}
use Rattle.net_model.specs.Plan.{plan, orders_on, spelled_orders}
use Rattle.kme_base.specs.Steps.{IsStep, transmission_of_order, orders_of}
use Rattle.kme_base.specs.declared.step.Step.{Step}
use Rattle.kme_base.specs.Places.{AreEnds, AreOf, HasBytesFor}
use Rattle.kme_base.proofs.Ends.{needs_are}
use Rattle.kme_node.specs.Places.{AreApart, HaveBytes}
use Rattle.kme_node.specs.Holdings.{Holdings, view, HasBlocksAlone, HasOrdersWithin, Fits}
use Rattle.kme_node.proofs.Apart.{ends_within}
use Rattle.kme_node.proofs.Alone.{alone_leases}
use Rattle.kme_node.proofs.PlanFits.{ordered_fit}
use Rattle.kme_node.proofs.PlanOrders.{plan_spells}

-- the orders need as many bytes as their transmissions
bytes_for : (facts : List Fact) (orders : List Order) (ts : List Transmission) → AreOf facts orders → map transmission_of_order orders ≡ ts →
    (ports : List Port) → HaveBytes facts ts ports → HasBytesFor orders ports
bytes_for facts orders ts spelled same [] have = tt
bytes_for facts orders ts spelled same (p ∷ ps) have = (
  subst (λ (n : ℕ). p.planned + n ≤ received_of p) (ap (λ (us : List Transmission). needs facts (on_lane p.lane us)) (sym same) ∙ needs_are facts p.lane orders spelled) have.0,
  bytes_for facts orders ts spelled same ps have.1,
)

pub plan_fits : (h : Holdings) (site : Site) (up : ℕ → Bool) → AreApart h.ends.ports → AreEnds h.ends.ports → (r : Result Step Reply) →
    IsStep (view h) [] (Does (plan site up (view h))) r → IfOk r (Fits h)
unfolding plan
plan_fits h site up apart ends (Ok s) is =
    let facts = h.kept.ends.known.facts in
    let ports = filter (λ (p : Port). up p.lane.link) h.ends.ports in
    let orders : List Order = flat_map (λ (p : Port). spelled_orders facts p.planned (orders_on site (view h) p)) ports in
    let spelled : AreOf facts orders = plan_spells site (view h) ports in
    let same : map transmission_of_order orders ≡ flat_map (orders_on site (view h)) ports = ap orders_of (sym is.reply) ∙ is.orders in
    let have = ordered_fit site (view h) (λ (p : Port). up p.lane.link) h.ends.ports apart (ends_within h.ends.ports ends) in
    record {
      blocks = subst HasBlocksAlone (sym is.batch) (alone_leases site (view h) ports);
      orders = subst (HasOrdersWithin h) (sym is.reply) (spelled, bytes_for facts orders (flat_map (orders_on site (view h)) ports) spelled same h.ends.ports have);
    }
plan_fits h site up apart ends (Err q) is = tt
