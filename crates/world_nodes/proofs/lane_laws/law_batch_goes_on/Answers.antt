use Rattle.world_nodes.proofs.LaneGoing.{batch_goes_on}
use Rattle.world_nodes.proofs.lane_laws.law_batch_goes_on.Goals as goal

pub returns : goal.returns
returns c = batch_goes_on
