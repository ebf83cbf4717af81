use Rattle.kme_base.specs.Places.{planned_within}
use Rattle.kme_base.proofs.Ends.{each_step}
use Rattle.kme_base.proofs.ports.plan_in.Goals as goal

pub loop-end-preserved : goal.loop-end-preserved
loop-end-preserved c =
    each_step (planned_within c.args.lane.now c.args.bytes) c.args.ends.now c.loop-end.ends c.loop-end.end-index c.end-item.result c.plan.new.self c.loop-end-test.true c.loop-end.auto.ends c.loop-end.invariant c.plan.ensures.port c.plan.ensures.spare
