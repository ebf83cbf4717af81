use Rattle.std.proofs.Common.{ap, sym, ◌∙◌}
use Rattle.net_model.specs.Site.{receiver}
use Rattle.declared_site.specs.SiteOf.{site_of}
use Rattle.kme_relay.proofs.Ends.{ordered, bounded}
use Rattle.kme_relay.proofs.parts.add_orders.Goals as goal

pub returns-clause-orders : goal.returns-clause-orders
returns-clause-orders c v knows =
    ordered (site_of c.args.site.now) v c.args.end.now.port c.args.known.now c.args.window.now c.args.draft.now c.begin.new.self c.add_acks.new.draft c.add_facts.new.draft
    c.lane-lane.result c.received-received.result c.receiver-to.result c.planned.result knows c.lane-lane.ensures c.received-received.ensures.number
    (c.receiver-to.ensures ∙ ap (receiver (site_of c.args.site.now)) (c.lane.ensures ∙ sym c.lane-lane.ensures)) c.planned.ensures.number c.begin.ensures
    (c.in_ok-add_acks.ensures c.args.known.now.facts) c.in_ok-add_facts.ensures

pub returns-clause-bound : goal.returns-clause-bound
returns-clause-bound c =
    bounded c.args.end.now.port c.args.known.now c.args.window.now c.args.draft.now c.begin.new.self c.add_acks.new.draft c.add_facts.new.draft
    c.lane-lane.result c.received-received.result c.receiver-to.result c.planned.result c.received-received.ensures.number c.planned.ensures.number c.planned.ensures.bound c.begin.ensures
    (c.in_ok-add_acks.ensures c.args.known.now.facts) c.in_ok-add_facts.ensures
