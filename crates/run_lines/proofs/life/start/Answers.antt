use Rattle.std.proofs.Common.{◌∙◌, ap}
use Rattle.declared_site.specs.declared.site.Site.{Site as SiteValue}
use Rattle.run_model.specs.Outcomes.{start_items}
use Rattle.run_lines.proofs.Going.{Ways, begun, one_asked}
use Rattle.run_lines.proofs.Calm.{started_calm}
use Rattle.run_lines.proofs.life.start.Goals as goal

pub returns-in-Err-clause-runs : goal.returns-in-Err-clause-runs
returns-in-Err-clause-runs g c = λ net w ready.
    let ways : Ways g.S.Acts.stands g.S.Acts.rests g.S.Acts.tallied = record { rest = g.met.S.Acts.comes_to_rest; none = g.met.S.Acts.none_tallied; more = g.met.S.Acts.more_tallied } in
    begun _ _ _ ways _ c.args.number net _ _ _ w _ _ (c.in-Err.ensures.left net w ready)

pub returns-in-Ok-clause-runs : goal.returns-in-Ok-clause-runs
returns-in-Ok-clause-runs g c = λ net w ready.
    let ways : Ways g.S.Acts.stands g.S.Acts.rests g.S.Acts.tallied = record { rest = g.met.S.Acts.comes_to_rest; none = g.met.S.Acts.none_tallied; more = g.met.S.Acts.more_tallied } in
    one_asked _ _ _ ways _ c.args.number net _ _ _ _ w _ _ start_items _ _ _ (c.in-Ok.ensures.done net w ready) (started_calm c.in-Ok.start) c.start_item.ensures
    (ap (λ (s : SiteValue). s.nodes) (c.declared.ensures ∙ c.in-Ok.ensures.site)) c.write_item.ensures.wrote
