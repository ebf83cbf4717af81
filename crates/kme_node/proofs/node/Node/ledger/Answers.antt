use Rattle.std.proofs.Common.{subst, sym}
use Rattle.declared_site.specs.SiteOf.{site_of}
use Rattle.kme_relay.specs.Knows.{HasPorts}
use Rattle.kme_node.specs.Holdings.{view}
use Rattle.kme_node.proofs.Sights.{has_ports}
use Rattle.kme_node.proofs.node.Node.ledger.Goals as goal

pub returns : goal.returns
returns c frames is_up random = c.ledger.ensures (view c.args.self.now) (subst (HasPorts (view c.args.self.now)) (sym c.ports.ensures) (has_ports c.args.self.now)) (site_of c.args.self.now.site) frames is_up random
