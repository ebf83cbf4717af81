use Rattle.std.proofs.Common.{[], subst, sym}
use Rattle.net_model.specs.declared.event.Event.TheVariants.{Open}
use Rattle.net_model.specs.Decide.{decide}
use Rattle.declared_site.specs.SiteOf.{site_of}
use Rattle.declared_site.specs.declared.site.Site.{Site as Declared}
use Rattle.kme_base.specs.Steps.{IsStep}
use Rattle.stream_core.specs.Kept.{Sees}
use Rattle.kme_node.specs.Holdings.{view}
use Rattle.kme_node.proofs.Sights.{sees}
use Rattle.kme_node.proofs.node.Node.open.Goals as goal

pub returns : goal.returns
unfolding decide
returns c frames is_up random up =
    subst (λ (s : Declared). IsStep (view c.args.self.now) [] (decide (site_of s) frames is_up (view c.args.self.now) random (Open c.args.source c.args.peer c.args.bits)) c.open_stream.result) c.site.ensures.site
    ((c.open_stream.ensures (view c.args.self.now) is_up (subst (Sees (view c.args.self.now)) (sym c.streams.ensures) (sees c.args.self.now)) up).step)
