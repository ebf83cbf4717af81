use Rattle.world_nodes.proofs.LaneStarts.{resolved_made}
use Rattle.world_nodes.proofs.lane_laws.law_resolved_is_made.Goals as goal

pub returns : goal.returns
returns c = resolved_made
