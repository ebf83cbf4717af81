use Rattle.declared_site.specs.SiteOf.{site_of}
use Rattle.kme_relay.specs.UnderWay.{AreFronts}
use Rattle.kme_relay.proofs.fronts.Fronts.go_on_all.Given as goal

abbrev pub invariant-loop-end : goal.invariant-loop-end
invariant-loop-end l = AreFronts (site_of l.site) l.known.me l.known.acked l.known.facts l.window.volatile l.self
