use Rattle.std.proofs.Common.{◌∙◌, false, ap}
use Rattle.std.specs.Prelude.{Ok, Err}
use Rattle.declared_site.specs.declared.site.Site.{Site as SiteValue}
use Rattle.run_model.specs.Outcomes.{block_items}
use Rattle.run_model.specs.Lines.{is_taken}
use Rattle.run_lines.proofs.Going.{Ways, begun}
use Rattle.run_lines.proofs.Looping.{went_none, asked_reported}
use Rattle.run_lines.proofs.Calm.{taken_calm}
use Rattle.run_lines.proofs.blocks.take_at.Goals as goal

pub returns-then-not-goes_on-clause-goes : goal.returns-then-not-goes_on-clause-goes
returns-then-not-goes_on-clause-goes g c = λ next net w ready.
    let ways : Ways g.S.Acts.stands g.S.Acts.rests g.S.Acts.tallied = record { rest = g.met.S.Acts.comes_to_rest; none = g.met.S.Acts.none_tallied; more = g.met.S.Acts.more_tallied } in
    rw c.if-not-goes_on.true (went_none _ _ _ ways _ c.args.number _ _ (next false) net w ready)

pub returns-in-Ok-write_some-clause-goes : goal.returns-in-Ok-write_some-clause-goes
returns-in-Ok-write_some-clause-goes g c = λ next net w ready.
    let ways : Ways g.S.Acts.stands g.S.Acts.rests g.S.Acts.tallied = record { rest = g.met.S.Acts.comes_to_rest; none = g.met.S.Acts.none_tallied; more = g.met.S.Acts.more_tallied } in
    let done = c.in-Ok.ensures.done net w ready in
    let here = asked_reported _ _ _ ways _ c.args.number net w _ _ _ _ _ _ (block_items c.args.link c.args.end) (λ out. next (is_taken out)) _ _ (Ok c.in-Ok-write_some.field-0)
    (rw (c.node_at-node.ensures, c.declared.ensures) at done) (taken_calm c.in-Ok.take) c.block_item-item.ensures
    (ap (λ (s : SiteValue). s.nodes) (c.declared-in-Ok.ensures ∙ c.in-Ok.ensures.site)) c.in-Ok-write_some.ensures.wrote in
    rw (c.if-not-goes_on.false, c.is_taken.ensures) here

pub returns-in-Ok-clause-goes : goal.returns-in-Ok-clause-goes
returns-in-Ok-clause-goes g c = λ next net w ready.
    let ways : Ways g.S.Acts.stands g.S.Acts.rests g.S.Acts.tallied = record { rest = g.met.S.Acts.comes_to_rest; none = g.met.S.Acts.none_tallied; more = g.met.S.Acts.more_tallied } in
    let done = c.in-Ok.ensures.done net w ready in
    let here = asked_reported _ _ _ ways _ c.args.number {T = Unit {0}} net w _ _ _ _ _ _ (block_items c.args.link c.args.end) (λ out. next (is_taken out)) _ _ (Err c.in-Err-write_some.stop)
    (rw (c.node_at-node.ensures, c.declared.ensures) at done) (taken_calm c.in-Ok.take) c.block_item-item.ensures
    (ap (λ (s : SiteValue). s.nodes) (c.declared-in-Ok.ensures ∙ c.in-Ok.ensures.site)) c.in-Err-write_some.ensures.wrote in
    rw c.if-not-goes_on.false here

pub returns-clause-goes : goal.returns-clause-goes
returns-clause-goes g c = λ next net w ready.
    let ways : Ways g.S.Acts.stands g.S.Acts.rests g.S.Acts.tallied = record { rest = g.met.S.Acts.comes_to_rest; none = g.met.S.Acts.none_tallied; more = g.met.S.Acts.more_tallied } in
    let left = c.in-Err.ensures.left net w ready in
    rw c.if-not-goes_on.false (begun _ _ _ ways _ c.args.number net _ _ _ w _ _ (rw (c.node_at-node.ensures, c.declared.ensures) at left))
