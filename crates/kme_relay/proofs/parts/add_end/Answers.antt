use Rattle.declared_site.specs.SiteOf.{site_of}
use Rattle.kme_relay.proofs.Ends.{end_added}
use Rattle.kme_relay.proofs.parts.add_end.Goals as goal

pub returns : goal.returns
returns c v knows =
    end_added (site_of c.args.site.now) v c.args.end.now.port c.args.window.now c.args.parts.now _ c.lane.result knows.volatile c.lane.ensures (c.in_ok-add_orders.ensures.orders v knows)
    c.in_ok-add_repeats.ensures c.in_ok-add_lease.ensures
