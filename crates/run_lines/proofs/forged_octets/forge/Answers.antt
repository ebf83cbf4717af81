use Rattle.std.proofs.Common.{◌∙◌, ap, sym}
use Rattle.declared_site.specs.declared.site.Site.{Site as SiteValue}
use Rattle.run_types.specs.declared.item.Item.TheVariants as items
use Rattle.run_model.specs.Outcomes.{frame_items}
use Rattle.run_ops.specs.declared.tampered.Tampered.{Tampered}
use Rattle.run_ops.specs.Acting.{tampered}
use Rattle.run_lines.proofs.Going.{Ways, begun, forged, one_asked}
use Rattle.run_lines.proofs.Calm.{came_calm}
use Rattle.run_lines.proofs.forged_octets.forge.Goals as goal

pub returns-in-Err-clause-runs : goal.returns-in-Err-clause-runs
returns-in-Err-clause-runs g c = λ net w ready.
    let ways : Ways g.S.Acts.stands g.S.Acts.rests g.S.Acts.tallied = record { rest = g.met.S.Acts.comes_to_rest; none = g.met.S.Acts.none_tallied; more = g.met.S.Acts.more_tallied } in
    let left = c.in-Err.ensures.left net w ready in
    begun _ _ _ ways _ c.args.number net _ _ _ w _ _ left

pub returns-in-Ok-Matched-clause-runs : goal.returns-in-Ok-Matched-clause-runs
returns-in-Ok-Matched-clause-runs g c = λ net w ready.
    let ways : Ways g.S.Acts.stands g.S.Acts.rests g.S.Acts.tallied = record { rest = g.met.S.Acts.comes_to_rest; none = g.met.S.Acts.none_tallied; more = g.met.S.Acts.more_tallied } in
    let done = c.in-Ok-Matched.ensures.done net w ready in
    let found = rw c.in-Ok-Matched.field-0-is at done in
    forged _ _ _ ways _ c.args.number net _ _ _ w _ _ found

pub returns-in-Ok-Came-clause-runs : goal.returns-in-Ok-Came-clause-runs
returns-in-Ok-Came-clause-runs g c = λ net w ready.
    let ways : Ways g.S.Acts.stands g.S.Acts.rests g.S.Acts.tallied = record { rest = g.met.S.Acts.comes_to_rest; none = g.met.S.Acts.none_tallied; more = g.met.S.Acts.more_tallied } in
    let reported = frame_items (items.Forged c.args.lane.now) in
    let done = c.in-Ok-Came.ensures.done net w ready in
    one_asked _ _ _ ways _ c.args.number net _ _ _ _ w _ _ reported _ _ _ done (came_calm c.in-Ok-Came.field-0 c.in-Ok-Came.delivery c.in-Ok-Came.field-0-is)
    (c.forged_item-item.ensures ∙ ap (λ (f : Tampered). reported (tampered f)) (sym c.in-Ok-Came.field-0-is))
    (ap (λ (s : SiteValue). s.nodes) (c.declared.ensures ∙ c.in-Ok-Came.ensures.site)) c.write_some.ensures.wrote
