use Rattle.std.proofs.Common.{◌∙◌, arith, ap}
use Rattle.kme_base.specs.Places.{ports_in}
use Rattle.kme_base.proofs.Ends.{roomed_step, unchanged}
use Rattle.kme_base.proofs.ports.room_in.Goals as goal

pub returns-in_err-room_block-clause-ports : goal.returns-in_err-room_block-clause-ports
returns-in_err-room_block-clause-ports c =
    ap ports_in (unchanged c.loop-end.ends c.loop-end.end-index c.end-item.result c.room_block.new.self c.in_err-room_block.ensures.err) ∙ c.loop-end.invariant.ports

pub returns-in_err-room_block-clause-kept : goal.returns-in_err-room_block-clause-kept
returns-in_err-room_block-clause-kept c = λ other room.
    rw (unchanged c.loop-end.ends c.loop-end.end-index c.end-item.result c.room_block.new.self c.in_err-room_block.ensures.err) (c.loop-end.invariant.kept other room)

pub loop-end-preserved : goal.loop-end-preserved
loop-end-preserved c =
    let h = c.room_block.ensures in
    roomed_step c.args.link c.loop-end.end-index c.args.ends.now c.loop-end.ends c.end-item.result c.room_block.new.self (omega (arith, c.loop-end-test.true, c.loop-end.auto.ends)) c.loop-end.invariant h.port c.in_ok-room_block.ensures.ok h.kept
