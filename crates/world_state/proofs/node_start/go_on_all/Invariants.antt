use Rattle.declared_site.specs.SiteOf.{site_of}
use Rattle.world_state.proofs.AllGoOn.{WentTo}
use Rattle.world_state.proofs.node_start.go_on_all.Given as goal

abbrev pub invariant-loop-place : goal.invariant-loop-place
invariant-loop-place g l = WentTo (site_of l.fn.site) l.fn.node l.fn.manager.view l.fn.lanes.items l.place l.lanes.items
