use Rattle.kme_base.proofs.Ends.{taken_room, taken_step}
use Rattle.kme_base.proofs.ports.take_in.Goals as goal

pub take_block-requires : goal.take_block-requires
take_block-requires c =
    taken_room c.args.link c.args.number c.args.bytes.now c.loop-end.end-index c.args.ends.now c.loop-end.ends c.end-item.result c.loop-end-test.true c.requires c.loop-end.invariant

pub loop-end-preserved : goal.loop-end-preserved
loop-end-preserved c =
    taken_step c.args.link c.args.number c.args.bytes.now c.loop-end.end-index c.args.ends.now c.loop-end.ends c.end-item.result c.take_block.new.self c.loop-end-test.true c.loop-end.auto.ends c.loop-end.invariant c.take_block.ensures.port c.take_block.ensures.spare
