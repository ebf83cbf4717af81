use Rattle.network_tests.proofs.Within.{site_declared}
use Rattle.network_tests.proofs.pair.site.Goals as goal

pub returns : goal.returns
returns c =
    let g = c.in_ok-entitlements.ensures in
    site_declared _ c.in_ok-nodes.ensures c.links-routes.ensures.links c.links-routes.ensures.table g.number g.homes.0 g.homes.1 g.distinct g.pairs
