use Rattle.std.proofs.Common.{◌≤◌, ◌^◌, List, [], length, subst, sym}
use Rattle.qkd_base.specs.Name.{Name}
use Rattle.net_model.specs.declared.event.Event.TheVariants.{Status}
use Rattle.net_model.specs.Decide.{decide}
use Rattle.declared_site.specs.SiteOf.{site_of}
use Rattle.declared_site.specs.declared.site.Site.{Site as Declared}
use Rattle.kme_base.specs.Steps.{IsStep}
use Rattle.end_store.specs.Pooled.{Sees as SeesEnds}
use Rattle.kme_node.specs.Holdings.{view}
use Rattle.kme_keys.proofs.Deciding.{pool_seen}
use Rattle.kme_node.proofs.Sights.{sees_ends}
use Rattle.kme_node.proofs.node.Node.status.Goals as goal

pub returns-clause-step : goal.returns-clause-step
unfolding decide
returns-clause-step c frames is_up random =
    subst (λ (s : Declared). IsStep (view c.args.self.now) [] (decide (site_of s) frames is_up (view c.args.self.now) random (Status c.args.master c.args.slave)) c.status.result) c.site.ensures.site
    (c.status.ensures.step (view c.args.self.now) (subst (SeesEnds (view c.args.self.now)) (sym c.ends.ensures) (sees_ends c.args.self.now)))

pub returns-clause-large : goal.returns-clause-large
returns-clause-large c is =
    let v = view c.args.self.now in
    let seen = subst (SeesEnds v) (sym c.ends.ensures) (sees_ends c.args.self.now) in
    subst (λ (ready : List Name). 2 ^ 32 ≤ length ready) (pool_seen v c.ends.result.now seen c.args.master c.args.slave 256) (c.status.ensures.large is)
