use Rattle.std.proofs.Common.{◌∙◌, ap}
use Rattle.std.specs.Prelude.{Result, Ok, Err, OnOk}
use Rattle.declared_site.specs.declared.site.Site.{Site as SiteValue}
use Rattle.run_lines.proofs.Going.{Ways}
use Rattle.run_tasks.proofs.Allowing.{may_together}
use Rattle.run_tasks.proofs.Ran.{nothing_done, block_told, block_left}
use Rattle.run_tasks.proofs.block.do_block.Goals as goal

pub returns-in-Err-clause-ran : goal.returns-in-Err-clause-ran
returns-in-Err-clause-ran g c = λ http n w speaks ready.
    let ways : Ways g.S.Acts.stands g.S.Acts.rests g.S.Acts.tallied = record { rest = g.met.S.Acts.comes_to_rest; none = g.met.S.Acts.none_tallied; more = g.met.S.Acts.more_tallied } in
    nothing_done _ _ _ ways _ http n _ _ _ _ _ w _ (ways.rest _ n w ready.stands) (ways.none _ n w ready.stands)

pub together-requires : goal.together-requires
together-requires g c =
    let may = may_together g.S.Acts.site g.S.Acts.stands c.args.net.now c.args.workers c.in-Ok.prepared.jobs.items c.requires.workers c.in-Ok.ensures.allowed c.requires.ready in
    c.requires.able _ c.args.workers _ (rw c.deref.ensures.value may)

pub returns-in-Ok-together-clause-site : goal.returns-in-Ok-together-clause-site
returns-in-Ok-together-clause-site g c =
    let may = may_together g.S.Acts.site g.S.Acts.stands c.args.net.now c.args.workers c.in-Ok.prepared.jobs.items c.requires.workers c.in-Ok.ensures.allowed c.requires.ready in
    (c.requires.does _ c.args.workers _ _ _ (rw c.deref.ensures.value may) c.in-Ok-together.ensures).sited

pub returns-in-Ok-together-clause-armed : goal.returns-in-Ok-together-clause-armed
returns-in-Ok-together-clause-armed g c =
    let may = may_together g.S.Acts.site g.S.Acts.stands c.args.net.now c.args.workers c.in-Ok.prepared.jobs.items c.requires.workers c.in-Ok.ensures.allowed c.requires.ready in
    (c.requires.does _ c.args.workers _ _ _ (rw c.deref.ensures.value may) c.in-Ok-together.ensures).armed_as

pub returns-in-Ok-together-clause-ready : goal.returns-in-Ok-together-clause-ready
returns-in-Ok-together-clause-ready g c =
    let q = c.requires.ready in
    let may = may_together g.S.Acts.site g.S.Acts.stands c.args.net.now c.args.workers c.in-Ok.prepared.jobs.items c.requires.workers c.in-Ok.ensures.allowed q in
    let did = (c.requires.does _ c.args.workers _ _ _ (rw c.deref.ensures.value may) c.in-Ok-together.ensures).done q.0 q.1 q.2 in
    anyhow c.report.result (q.0, _, did.ready)
  where
    anyhow : {T E P : Type 0} (result : Result T E) → P → OnOk result P
    anyhow (Ok answer) is = is
    anyhow (Err stop) is = tt

pub returns-in-Ok-together-clause-ran : goal.returns-in-Ok-together-clause-ran
returns-in-Ok-together-clause-ran g c = λ http n w speaks ready.
    let ways : Ways g.S.Acts.stands g.S.Acts.rests g.S.Acts.tallied = record { rest = g.met.S.Acts.comes_to_rest; none = g.met.S.Acts.none_tallied; more = g.met.S.Acts.more_tallied } in
    let sited = g.met.S.Acts.is_sited c.args.net.now n w ready.stands in
    let prepared = c.in-Ok.ensures.prepared http n w speaks ready in
    let may = may_together g.S.Acts.site g.S.Acts.stands c.args.net.now c.args.workers c.in-Ok.prepared.jobs.items c.requires.workers c.in-Ok.ensures.allowed c.requires.ready in
    let did = c.requires.does _ c.args.workers _ _ _ (rw c.deref.ensures.value may) c.in-Ok-together.ensures in
    let done = did.done n w ready in
    let wrote = c.report.ensures.wrote http speaks in
    block_told _ _ _ ways _ http n _ (g.S.Acts.site c.args.net.now) _ _ _ _ w c.args.lines c.in-Ok.prepared c.in-Ok-together.done c.declared.result.now.nodes c.report.result c.requires.fit
    (rw (← sited) at prepared) (rw c.deref.ensures.value at done) (ap (λ (s : SiteValue). s.nodes) (c.declared.ensures ∙ did.sited))
    (rw (c.deref-in-Ok-together.ensures.value, c.deref-in-Ok-together-2.ensures.value, c.deref-in-Ok-together-3.ensures.value) at wrote)

pub returns-clause-site : goal.returns-clause-site
returns-clause-site g c =
    let may = may_together g.S.Acts.site g.S.Acts.stands c.args.net.now c.args.workers c.in-Ok.prepared.jobs.items c.requires.workers c.in-Ok.ensures.allowed c.requires.ready in
    (c.requires.does _ c.args.workers _ _ _ (rw c.deref.ensures.value may) c.in-Err-together.ensures).sited

pub returns-clause-armed : goal.returns-clause-armed
returns-clause-armed g c =
    let may = may_together g.S.Acts.site g.S.Acts.stands c.args.net.now c.args.workers c.in-Ok.prepared.jobs.items c.requires.workers c.in-Ok.ensures.allowed c.requires.ready in
    (c.requires.does _ c.args.workers _ _ _ (rw c.deref.ensures.value may) c.in-Err-together.ensures).armed_as

pub returns-clause-ran : goal.returns-clause-ran
returns-clause-ran g c = λ http n w speaks ready.
    let ways : Ways g.S.Acts.stands g.S.Acts.rests g.S.Acts.tallied = record { rest = g.met.S.Acts.comes_to_rest; none = g.met.S.Acts.none_tallied; more = g.met.S.Acts.more_tallied } in
    let sited = g.met.S.Acts.is_sited c.args.net.now n w ready.stands in
    let prepared = c.in-Ok.ensures.prepared http n w speaks ready in
    let may = may_together g.S.Acts.site g.S.Acts.stands c.args.net.now c.args.workers c.in-Ok.prepared.jobs.items c.requires.workers c.in-Ok.ensures.allowed c.requires.ready in
    let left = (c.requires.does _ c.args.workers _ _ _ (rw c.deref.ensures.value may) c.in-Err-together.ensures).left n w ready in
    block_left _ _ _ ways _ http n _ _ (g.S.Acts.site c.args.net.now) _ _ _ w c.args.lines c.in-Ok.prepared c.requires.fit (rw (← sited) at prepared) (rw c.deref.ensures.value at left)

pub returns-in-Ok-together-clause-lined : goal.returns-in-Ok-together-clause-lined
returns-in-Ok-together-clause-lined g c =
    let may = may_together g.S.Acts.site g.S.Acts.stands c.args.net.now c.args.workers c.in-Ok.prepared.jobs.items c.requires.workers c.in-Ok.ensures.allowed c.requires.ready in
    let did = c.requires.does _ c.args.workers _ _ _ (rw c.deref.ensures.value may) c.in-Ok-together.ensures in
    let line = c.report.ensures.lined in
    rw (c.declared.ensures ∙ did.sited) at line
