use Rattle.std.proofs.Common.{[], sym, subst}
use Rattle.net_model.specs.declared.payload.Payload.{Payload}
use Rattle.net_model.specs.Decision.{Does}
use Rattle.net_model.specs.Relay.{receive}
use Rattle.declared_site.specs.SiteOf.{site_of}
use Rattle.kme_base.specs.Steps.{IsStep}
use Rattle.kme_relay.proofs.payload.heard.Goals as goal

pub returns-in-Data : goal.returns-in-Data
returns-in-Data c = λ v h.
    subst (λ (p : Payload). IsStep v [] (Does (receive (site_of c.args.site.now) v c.args.lane c.args.offset p)) c.heard_fact.result) (sym c.in-Data.is) (c.heard_fact.ensures v h)

pub returns-in-Ack : goal.returns-in-Ack
returns-in-Ack c = λ v h.
    subst (λ (p : Payload). IsStep v [] (Does (receive (site_of c.args.site.now) v c.args.lane c.args.offset p)) c.heard_acknowledgement.result) (sym c.in-Ack.is)
    (rw c.neighbour-from.ensures at (c.heard_acknowledgement.ensures v h))
