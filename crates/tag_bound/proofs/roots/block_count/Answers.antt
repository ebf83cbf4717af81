use Rattle.std.proofs.Common.{arith}
use Rattle.tag_bound.proofs.Texts.{blocks_length}
use Rattle.tag_bound.proofs.roots.block_count.Goals as goal

pub returns : goal.returns
returns c = omega (arith, blocks_length c.args.text.now, c.div_ceil.ensures)
