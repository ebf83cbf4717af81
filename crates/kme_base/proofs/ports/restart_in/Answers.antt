use Rattle.kme_base.specs.Places.{restarted}
use Rattle.kme_base.proofs.Ends.{each_step}
use Rattle.kme_base.proofs.ports.restart_in.Goals as goal

pub loop-end-preserved : goal.loop-end-preserved
loop-end-preserved c =
    each_step (restarted) c.args.ends.now c.loop-end.ends c.loop-end.end-index c.end-item.result c.restart.new.self c.loop-end-test.true c.loop-end.auto.ends c.loop-end.invariant c.restart.ensures.port c.restart.ensures.spare
