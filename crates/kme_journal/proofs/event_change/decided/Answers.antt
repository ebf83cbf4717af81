use Rattle.std.proofs.Common.{List, ℕ, sym, subst, []}
use Rattle.net_model.specs.declared.event.Event.{Event}
use Rattle.net_model.specs.Decide.{decide, received_frame}
use Rattle.net_model.specs.View.{port_of, incoming_octets}
use Rattle.declared_site.specs.SiteOf.{site_of}
use Rattle.hop_frames.specs.Sealing.{hop_sealing}
use Rattle.kme_base.specs.Steps.{IsStep, placings_of}
use Rattle.kme_node.specs.Holdings.{view}
use Rattle.kme_journal.proofs.event_change.decided.Goals as goal

pub returns-in-Heard-clause-step : goal.returns-in-Heard-clause-step
unfolding decide
returns-in-Heard-clause-step c = λ is_up up.
    let v = view c.args.node.now in
    let lane = c.in-Heard.lane in
    subst (λ (e : Event). IsStep v (placings_of e) (decide (site_of c.args.node.now.site) hop_sealing is_up v c.args.random.now e) c.heard.result) (sym c.in-Heard.is)
    (subst (λ (bytes : List ℕ). IsStep v [] (received_frame (site_of c.args.node.now.site) v lane (hop_sealing.unseal lane (incoming_octets lane (port_of v lane.link)) bytes)) c.heard.result) c.as_slice.ensures c.heard.ensures.step)

pub returns-in_default : goal.returns-in_default
returns-in_default c = record { step = λ is_up up. c.step.ensures.step hop_sealing is_up up; fits = c.step.ensures.fits }
