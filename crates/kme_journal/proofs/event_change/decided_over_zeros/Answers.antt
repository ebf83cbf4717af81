use Rattle.std.proofs.Common.{[], subst}
use Rattle.std.specs.Prelude.{Result}
use Rattle.net_model.specs.declared.reply.Reply.{Reply}
use Rattle.net_model.specs.Decide.{decide}
use Rattle.declared_site.specs.SiteOf.{site_of}
use Rattle.hop_frames.specs.Sealing.{hop_sealing}
use Rattle.kme_base.specs.declared.step.Step.{Step}
use Rattle.kme_base.specs.Steps.{IsStep, placings_of}
use Rattle.kme_node.specs.Holdings.{view}
use Rattle.kme_journal.proofs.Decided.{refused_alike, wanted_alike}
use Rattle.kme_journal.proofs.event_change.decided_over_zeros.Goals as goal

pub returns-in-Err-decided-clause-refused : goal.returns-in-Err-decided-clause-refused
returns-in-Err-decided-clause-refused c = λ is_up random up.
    let v = view c.args.node.now in
    let site = site_of c.args.node.now.site in
    let event = c.args.event.now in
    refused_alike site hop_sealing is_up v (placings_of event) [] random event c.in-Err-decided.reply
    (subst (λ (r : Result Step Reply). IsStep v (placings_of event) (decide site hop_sealing is_up v [] event) r) c.in-Err-decided.is (c.decided.ensures.step is_up up))

pub returns-in-Err-clause-refused : goal.returns-in-Err-clause-refused
returns-in-Err-clause-refused c = λ is_up random up.
    let v = view c.args.node.now in
    let site = site_of c.args.node.now.site in
    let event = c.args.event.now in
    wanted_alike site hop_sealing is_up v (placings_of event) [] random event c.in-Ok-decided.field-0
    (subst (λ (r : Result Step Reply). IsStep v (placings_of event) (decide site hop_sealing is_up v [] event) r) c.in-Ok-decided.is (c.decided.ensures.step is_up up))

pub returns-in-Err-decided-2-clause-refused : goal.returns-in-Err-decided-2-clause-refused
returns-in-Err-decided-2-clause-refused c = λ is_up random up.
    let v = view c.args.node.now in
    let site = site_of c.args.node.now.site in
    let event = c.args.event.now in
    refused_alike site hop_sealing is_up v (placings_of event) c.deref.result.now random event c.in-Err-decided-2.reply
    (subst (λ (r : Result Step Reply). IsStep v (placings_of event) (decide site hop_sealing is_up v c.deref.result.now event) r) c.in-Err-decided-2.is (c.decided-in-Ok.ensures.step is_up up))
