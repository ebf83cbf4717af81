use Rattle.std.proofs.Common.{sym, subst, []}
use Rattle.net_model.specs.Plan.{plan}
use Rattle.declared_site.specs.SiteOf.{site_of}
use Rattle.kme_base.specs.Places.{ports_in}
use Rattle.kme_base.specs.Steps.{IsEffect}
use Rattle.kme_base.specs.declared.step.Step.{Step}
use Rattle.kme_relay.proofs.Ends.{is_effect}
use Rattle.kme_relay.proofs.tick_plan.plan.Goals as goal

pub returns-in-Ok-clause-step : goal.returns-in-Ok-clause-step
returns-in-Ok-clause-step c v is_up keeps up =
    subst (λ (s : Step). IsEffect v [] (plan (site_of c.args.site.now) is_up v) s) (sym c.step_of.ensures)
    (is_effect (site_of c.args.site.now) v is_up c.args.known.now c.args.ports.now c.args.window.now (ports_in c.as_slice.result.now) c.new-parts.result c.add_ends.new.parts keeps c.as_slice.ensures.ports c.new-parts.ensures
    (c.in-Ok.ensures v is_up keeps.knows up))
