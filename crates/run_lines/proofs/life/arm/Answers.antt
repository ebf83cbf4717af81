use Rattle.std.proofs.Common.{refl, ◌∙◌, ap}
use Rattle.declared_site.specs.declared.site.Site.{Site as SiteValue}
use Rattle.run_model.specs.Outcomes.{arm_items}
use Rattle.run_lines.proofs.Going.{Ways, one_asked}
use Rattle.run_lines.proofs.life.arm.Goals as goal

pub returns-clause-runs : goal.returns-clause-runs
returns-clause-runs g c = λ net w ready.
    let ways : Ways g.S.Acts.stands g.S.Acts.rests g.S.Acts.tallied = record { rest = g.met.S.Acts.comes_to_rest; none = g.met.S.Acts.none_tallied; more = g.met.S.Acts.more_tallied } in
    one_asked _ _ _ ways _ c.args.number net _ _ _ _ w _ _ arm_items _ _ _ (c.arm.ensures.done net w ready) refl c.arm_item.ensures
    (ap (λ (s : SiteValue). s.nodes) (c.declared.ensures ∙ c.arm.ensures.site)) c.write_item.ensures.wrote
