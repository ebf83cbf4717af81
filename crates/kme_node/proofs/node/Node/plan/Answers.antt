use Rattle.std.proofs.Common.{◌≡◌, [], subst, ap, refl}
use Rattle.net_model.specs.declared.event.Event.TheVariants.{Plan}
use Rattle.net_model.specs.Decide.{decide}
use Rattle.net_model.specs.Decision.{Does}
use Rattle.net_model.specs.Plan.{plan}
use Rattle.declared_site.specs.SiteOf.{site_of}
use Rattle.declared_site.specs.declared.site.Site.{Site as Declared}
use Rattle.route_table.specs.Layer.{bit_is_set}
use Rattle.kme_base.specs.Steps.{IsStep}
use Rattle.kme_base.specs.Places.{LinkEnds, AreEnds}
use Rattle.kme_node.specs.Places.{AreApart}
use Rattle.kme_node.specs.Holdings.{Holdings, view}
use Rattle.kme_node.proofs.Sights.{keeps_of}
use Rattle.kme_node.proofs.Apart.{ends_apart}
use Rattle.kme_relay.specs.UnderWay.{AreFronts}
use Rattle.kme_node.proofs.Fronted.{ahead_of}
use Rattle.kme_node.proofs.Planning.{plan_fits}
use Rattle.kme_node.proofs.node.Node.plan.Goals as goal

pub plan-requires : goal.plan-requires
plan-requires c =
    ahead_of c.args.self.now c.self.inside.fronts c.site.result.now c.known.result.now c.window.result.now c.site.ensures.site c.known.ensures c.window.ensures
    (subst (λ (h : Holdings). AreFronts (site_of h.site) h.kept.ends.known.me h.kept.ends.known.acked h.kept.ends.known.facts h.window.volatile c.self.inside.fronts) c.self.view_is c.self.invariant.ahead)

pub returns-clause-step : goal.returns-clause-step
unfolding decide
returns-clause-step c frames is_up random up =
    subst (λ (s : Declared). IsStep (view c.args.self.now) [] (decide (site_of s) frames is_up (view c.args.self.now) random (Plan)) c.plan.result) c.site.ensures.site
    (c.plan.ensures.step (view c.args.self.now) is_up (keeps_of c.args.self.now c.known.result.now c.self.inside.ports c.window.result.now c.known.ensures (ap (λ (h : Holdings). h.ends) c.self.view_is) c.window.ensures) up)

pub returns-clause-fits : goal.returns-clause-fits
returns-clause-fits c =
    let h = c.args.self.now in
    let ends : c.self.inside.ports ≡ h.ends = ap (λ (x : Holdings). x.ends) c.self.view_is in
    let lanes = subst (λ (x : Holdings). AreApart x.ends.ports) c.self.view_is (ends_apart (site_of c.self.inside.site) c.self.inside.kept.ends.known.me c.self.inside.ports.ports c.self.invariant.held.lanes) in
    plan_fits h (site_of h.site) (bit_is_set c.args.up) lanes (subst (λ (x : LinkEnds). AreEnds x.ports) ends c.plan.ensures.ends) c.plan.result
    (subst (λ (s : Declared). IsStep (view h) [] (Does (plan (site_of s) (bit_is_set c.args.up) (view h))) c.plan.result) c.site.ensures.site
    (c.plan.ensures.step (view h) (bit_is_set c.args.up) (keeps_of h c.known.result.now c.self.inside.ports c.window.result.now c.known.ensures ends c.window.ensures) (λ link below. refl)))
