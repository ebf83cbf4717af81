use Rattle.std.proofs.Common.{[], subst, sym}
use Rattle.net_model.specs.declared.event.Event.TheVariants.{Dec}
use Rattle.net_model.specs.Decide.{decide}
use Rattle.declared_site.specs.SiteOf.{site_of}
use Rattle.declared_site.specs.declared.site.Site.{Site as Declared}
use Rattle.kme_base.specs.Steps.{IsStep}
use Rattle.end_store.specs.Pooled.{Sees as SeesEnds}
use Rattle.kme_node.specs.Holdings.{view}
use Rattle.kme_node.proofs.Sights.{sees_ends}
use Rattle.kme_node.proofs.node.Node.dec.Goals as goal

pub returns : goal.returns
unfolding decide
returns c frames is_up random =
    subst (λ (s : Declared). IsStep (view c.args.self.now) [] (decide (site_of s) frames is_up (view c.args.self.now) random (Dec c.args.slave c.args.master c.args.names.now)) c.dec.result) c.site.ensures.site
    (c.dec.ensures (view c.args.self.now) (subst (SeesEnds (view c.args.self.now)) (sym c.ends.ensures) (sees_ends c.args.self.now)))
