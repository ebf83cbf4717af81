use Rattle.std.proofs.Common.{◌∙◌, refl, ap}
use Rattle.declared_site.specs.declared.site.Site.{Site as SiteValue}
use Rattle.run_ops.specs.Reported.{reported}
use Rattle.run_lines.proofs.Going.{Ways, asked_stops, one_asked}
use Rattle.run_lines.proofs.manager_lines.ask.Goals as goal

pub returns-clause-runs : goal.returns-clause-runs
returns-clause-runs g c = λ net w ready.
    let ways : Ways g.S.Acts.stands g.S.Acts.rests g.S.Acts.tallied = record { rest = g.met.S.Acts.comes_to_rest; none = g.met.S.Acts.none_tallied; more = g.met.S.Acts.more_tallied } in
    asked_stops _ _ _ ways _ c.args.number net _ _ _ w _ _ _ (c.ask-reply.ensures.done net w ready) refl

pub returns-in-Ok-clause-runs : goal.returns-in-Ok-clause-runs
returns-in-Ok-clause-runs g c = λ net w ready.
    let ways : Ways g.S.Acts.stands g.S.Acts.rests g.S.Acts.tallied = record { rest = g.met.S.Acts.comes_to_rest; none = g.met.S.Acts.none_tallied; more = g.met.S.Acts.more_tallied } in
    one_asked _ _ _ ways _ c.args.number net _ _ _ _ w _ _ (reported c.args.asked.reporting) _ _ _ (c.ask-reply.ensures.done net w ready) refl (c.as_slice.ensures ∙ c.in-Ok.ensures)
    (ap (λ (s : SiteValue). s.nodes) (c.declared.ensures ∙ c.ask-reply.ensures.site)) c.write_items.ensures.wrote
