use Rattle.std.proofs.Common.{arith, ◌+◌}
use Rattle.link_segments.proofs.LaneLemmas.{block_there, lane_small, copy_more}
use Rattle.link_segments.proofs.segments.copy_lane.Goals as goal

pub overflow_add-place : goal.overflow_add-place
overflow_add-place c = omega (arith, lane_small c.args.way c.args.blocks.now c.requires.blocks)

pub offset_bounds-blocks-place : goal.offset_bounds-blocks-place
offset_bounds-blocks-place c =
    omega (arith, block_there c.args.way c.args.blocks.now (c.args.off + c.loop-i.i) c.requires.blocks (omega arith), c.requires.blocks.number, c.first_place-first.ensures)

pub bounds-blocks-place : goal.bounds-blocks-place
bounds-blocks-place c =
    omega (arith, block_there c.args.way c.args.blocks.now (c.args.off + c.loop-i.i) c.requires.blocks (omega arith), c.first_place-first.ensures)

pub loop-i-preserved : goal.loop-i-preserved
loop-i-preserved c =
    copy_more c.args.way c.args.blocks.now c.loop-i.into c.args.off c.loop-i.i c.first_place-first.result c.requires.blocks c.first_place-first.ensures (omega arith) (omega arith) c.loop-i.invariant
