use Rattle.std.proofs.Common.{[], subst, sym}
use Rattle.net_model.specs.declared.event.Event.TheVariants.{Close}
use Rattle.net_model.specs.Decide.{decide}
use Rattle.declared_site.specs.SiteOf.{site_of}
use Rattle.declared_site.specs.declared.site.Site.{Site as Declared}
use Rattle.kme_base.specs.Steps.{IsStep}
use Rattle.stream_core.specs.Kept.{Sees}
use Rattle.kme_node.specs.Holdings.{view}
use Rattle.kme_node.proofs.Sights.{sees}
use Rattle.kme_node.proofs.node.Node.close.Goals as goal

pub returns : goal.returns
unfolding decide
returns c frames is_up random =
    subst (λ (s : Declared). IsStep (view c.args.self.now) [] (decide (site_of s) frames is_up (view c.args.self.now) random (Close c.args.caller c.args.stream)) c.close_stream.result) c.site.ensures.site
    ((c.close_stream.ensures (view c.args.self.now) (subst (Sees (view c.args.self.now)) (sym c.streams.ensures) (sees c.args.self.now))).step)
