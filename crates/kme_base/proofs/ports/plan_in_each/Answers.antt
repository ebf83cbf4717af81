use Rattle.kme_base.specs.Places.{need_within}
use Rattle.kme_base.proofs.Ends.{each_step}
use Rattle.kme_base.proofs.ports.plan_in_each.Goals as goal

pub loop-end-preserved : goal.loop-end-preserved
loop-end-preserved c =
    each_step (need_within c.args.orders.now) c.args.ends.now c.loop-end.ends c.loop-end.end-index c.end-item.result c.plan_orders.new.self c.loop-end-test.true c.loop-end.auto.ends c.loop-end.invariant c.plan_orders.ensures.port c.plan_orders.ensures.spare
