use Rattle.world_nodes.proofs.TakeBlocks.{take_makes}
use Rattle.world_nodes.proofs.lane_laws.law_block_is_made.Goals as goal

pub returns : goal.returns
returns c net w v link environment r incident = take_makes net w r v link incident environment
