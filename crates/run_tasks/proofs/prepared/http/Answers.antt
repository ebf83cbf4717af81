use Rattle.std.proofs.Common.{◌∙◌, sym, ap, subst}
use Rattle.declared_site.specs.SiteOf.{site_of}
use Rattle.run_lines.specs.Answering.{asked_for, IsAskedOf}
use Rattle.run_tasks.proofs.Made.{http_job, http_told, event_allowed}
use Rattle.run_tasks.proofs.prepared.http.Goals as goal

pub returns-in-Ok-AtOnce-clause-made : goal.returns-in-Ok-AtOnce-clause-made
returns-in-Ok-AtOnce-clause-made g c = λ d http w speaks.
    http_told http (site_of d) w c.args.node c.args.octets _ _ c.http_item.result (sym (c.in-Ok-AtOnce.ensures.asked http speaks) ∙ ap asked_for c.in-Ok-AtOnce.field-0-is) c.http_item.ensures.item

pub returns-in-Ok-Event-clause-made : goal.returns-in-Ok-Event-clause-made
returns-in-Ok-Event-clause-made g c = λ d http w speaks.
    http_job http (site_of d) w c.args.node c.args.octets c.in-Ok-Event.event (sym (c.in-Ok-Event.ensures.asked http speaks) ∙ ap asked_for c.in-Ok-Event.field-0-is)

pub returns-in-Ok-Event-clause-allowed : goal.returns-in-Ok-Event-clause-allowed
returns-in-Ok-Event-clause-allowed g c = λ d w serves below.
    let fit = subst (IsAskedOf d c.args.node) c.in-Ok-Event.field-0-is (c.in-Ok-Event.ensures.fit d serves below) in
    (event_allowed d c.args.node c.in-Ok-Event.event fit.0 fit.1, tt)
