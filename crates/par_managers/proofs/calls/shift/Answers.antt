use Rattle.std.proofs.Common.{arith, ap, sym, subst, ◌∙◌}
use Rattle.block_run.specs.Jobs.{job_count}
use Rattle.run_ops.specs.Jobs.{IsThere}
use Rattle.par_managers.proofs.Asking.{there_at}
use Rattle.par_managers.proofs.Workers.{Shifting, shifting_none, shifting_in, shifting_out, shifting_all}
use Rattle.par_managers.proofs.calls.shift.Goals as goal
use Rattle.par_managers.proofs.calls.shift.Goals.{then-place-workers+in_ok-call_for+in_ok-push_back, else-place-workers}
use Rattle.world_state.specs.Outside.{outside}

pub loop-place-init : goal.loop-place-init
loop-place-init g c =
    subst (Shifting (outside g.K.Disk g.Q.Device g.E.Entropy g.X.Wire) c.args.state.now c.args.workers c.args.jobs.now c.args.worker 0) (sym c.new-shift.ensures.items)
    (shifting_none (outside g.K.Disk g.Q.Device g.E.Entropy g.X.Wire) c.args.state.now c.args.workers c.args.jobs.now c.args.worker c.requires.worker)

pub loop-place-preserved : goal.loop-place-preserved
loop-place-preserved g c =
    let below = c.loop-place-test.true in
    let is = c.index-jobs-place.is in
    elim c.if-place-workers.branch [
      | then-place-workers+in_ok-call_for+in_ok-push_back b ↦
          shifting_in (outside g.K.Disk g.Q.Device g.E.Entropy g.X.Wire) c.args.state.now c.args.workers c.args.jobs.now c.args.worker c.requires.worker
          c.loop-place.place c.index-jobs-place.result below is c.loop-place.shift.items c.if-place-workers.shift.items c.loop-place.invariant b.if-place-workers.true b.in_ok-call_for.field-0 b.in_ok-call_for.ensures.entry
          (b.in_ok-call_for.ensures.coming (λ net w ready. there_at (IsThere w) c.args.jobs.now c.loop-place.place c.index-jobs-place.result (c.requires.there net w ready) below is))
          (ap (λ o. o.items) b.shift-is ∙ b.in_ok-push_back.ensures.items)
      | else-place-workers b ↦
          shifting_out (outside g.K.Disk g.Q.Device g.E.Entropy g.X.Wire) c.args.state.now c.args.workers c.args.jobs.now c.args.worker c.requires.worker
          c.loop-place.place c.index-jobs-place.result below is c.loop-place.shift.items c.if-place-workers.shift.items c.loop-place.invariant b.if-place-workers.false (ap (λ o. o.items) b.shift-is)
    ]

pub returns-clause-asked : goal.returns-clause-asked
returns-clause-asked g c =
    shifting_all (outside g.K.Disk g.Q.Device g.E.Entropy g.X.Wire) c.args.state.now c.args.workers c.args.jobs.now c.args.worker
    c.loop-place.place c.loop-place.shift.items c.loop-place-test.false c.loop-place.invariant

pub returns-clause-coming : goal.returns-clause-coming
returns-clause-coming g c = c.loop-place.invariant.coming

pub returns-clause-entries : goal.returns-clause-entries
returns-clause-entries g c =
    let most = c.loop-place.auto.place-end in
    let least = c.loop-place-test.false in
    c.loop-place.invariant.many ∙ ap (job_count c.args.worker c.args.workers) (omega (arith, most, least))
