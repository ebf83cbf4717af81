use Rattle.std.proofs.Common.{◌∙◌, ap}
use Rattle.declared_site.specs.declared.site.Site.{Site as SiteValue}
use Rattle.run_types.specs.declared.item.Item.TheVariants as items
use Rattle.run_model.specs.Outcomes.{frame_items}
use Rattle.run_lines.proofs.Going.{Ways, begun, one_asked}
use Rattle.run_lines.proofs.Calm.{delivered_calm}
use Rattle.run_lines.proofs.frames.pass.Goals as goal

pub returns-in-Err-clause-runs : goal.returns-in-Err-clause-runs
returns-in-Err-clause-runs g c = λ net w ready.
    let ways : Ways g.S.Acts.stands g.S.Acts.rests g.S.Acts.tallied = record { rest = g.met.S.Acts.comes_to_rest; none = g.met.S.Acts.none_tallied; more = g.met.S.Acts.more_tallied } in
    let left = c.in-Err.ensures.left net w ready in
    begun _ _ _ ways _ c.args.number net _ _ _ w _ _ (rw c.from.ensures at left)

pub returns-in-Ok-clause-runs : goal.returns-in-Ok-clause-runs
returns-in-Ok-clause-runs g c = λ net w ready.
    let ways : Ways g.S.Acts.stands g.S.Acts.rests g.S.Acts.tallied = record { rest = g.met.S.Acts.comes_to_rest; none = g.met.S.Acts.none_tallied; more = g.met.S.Acts.more_tallied } in
    let done = c.in-Ok.ensures.done net w ready in
    one_asked _ _ _ ways _ c.args.number net _ _ _ _ w _ _ (frame_items (items.Passed c.args.lane.now c.args.frame)) _ _ _ (rw c.from.ensures at done) (delivered_calm c.in-Ok.delivery)
    c.passed_item-item.ensures (ap (λ (s : SiteValue). s.nodes) (c.declared.ensures ∙ c.in-Ok.ensures.site)) c.write_some.ensures.wrote
