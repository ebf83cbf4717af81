use Rattle.par_frames.proofs.AllLanes.{lanes_left}
use Rattle.par_frames.proofs.lane_work_laws.law_lanes_are_left.Goals as goal

pub returns : goal.returns
returns g c =
    λ net workers w jobs histories some running quiet turns lanes.
    lanes_left g.X.Wire net workers w jobs histories some running quiet turns lanes
