use Rattle.std.proofs.Common.{◌≡◌, ◌&&◌, nat_lt, map, filter}
use Rattle.net_model.specs.Site.{count_up, is_incident, outgoing_lane}
use Rattle.declared_site.specs.SiteOf.{site_of}
use Rattle.kme_base.proofs.lanes.outgoing_lanes.Given as goal

abbrev pub invariant-loop-number : goal.invariant-loop-number
invariant-loop-number l =
    l.lanes.items ≡ map (outgoing_lane (site_of l.site) l.me) (filter (λ x. nat_lt x (site_of l.site).links && is_incident (site_of l.site) l.me x) (count_up l.number))
