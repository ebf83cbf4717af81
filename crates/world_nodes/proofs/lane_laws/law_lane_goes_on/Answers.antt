use Rattle.world_nodes.proofs.LaneGoing.{goes_on}
use Rattle.world_nodes.proofs.lane_laws.law_lane_goes_on.Goals as goal

pub returns : goal.returns
returns g c = goes_on g.X.Wire
