use Rattle.std.proofs.Common.{[], subst, sym}
use Rattle.net_model.specs.Decision.{Does}
use Rattle.net_model.specs.Relay.{receive}
use Rattle.declared_site.specs.SiteOf.{site_of}
use Rattle.declared_site.specs.declared.site.Site.{Site as Declared}
use Rattle.kme_relay.specs.Knows.{Knows}
use Rattle.kme_base.specs.Steps.{IsStep}
use Rattle.kme_node.specs.Holdings.{view}
use Rattle.kme_node.proofs.Sights.{knows}
use Rattle.kme_node.proofs.Fitting.{step_fits}
use Rattle.kme_node.proofs.Hearing.{receipt_fits}
use Rattle.kme_node.proofs.node.Node.heard.Goals as goal

pub returns-clause-step : goal.returns-clause-step
returns-clause-step c =
    subst (λ (s : Declared). IsStep (view c.args.self.now) [] (Does (receive (site_of s) (view c.args.self.now) c.args.lane c.args.offset c.args.payload.now)) c.heard.result) c.site.ensures.site
    (c.heard.ensures (view c.args.self.now) (subst (Knows (view c.args.self.now)) (sym c.known.ensures) (knows c.args.self.now)))

pub returns-clause-fits : goal.returns-clause-fits
returns-clause-fits c =
    step_fits c.args.self.now (view c.args.self.now) [] (Does (receive (site_of c.args.self.now.site) (view c.args.self.now) c.args.lane c.args.offset c.args.payload.now)) c.heard.result
    (receipt_fits c.args.self.now (site_of c.args.self.now.site) (view c.args.self.now) c.args.lane c.args.offset c.args.payload.now) (returns-clause-step c)
