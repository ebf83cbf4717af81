use Rattle.tag_bound.proofs.Bound.{frame_blocks}
use Rattle.tag_bound.proofs.laws.law_frame_blocks.Goals as goal

pub returns : goal.returns
returns c = frame_blocks
