use Rattle.net_model.specs.Fold.{with_lease}
use Rattle.kme_base.proofs.Ends.{each_step}
use Rattle.kme_base.proofs.ports.lease_in.Goals as goal

pub loop-end-preserved : goal.loop-end-preserved
loop-end-preserved c =
    each_step (with_lease c.args.lane.now c.args.up_to) c.args.ends.now c.loop-end.ends c.loop-end.end-index c.end-item.result c.raise_lease.new.self c.loop-end-test.true c.loop-end.auto.ends c.loop-end.invariant c.raise_lease.ensures.port c.raise_lease.ensures.spare
