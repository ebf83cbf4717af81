use Rattle.par_frames.proofs.WholeBlock.{left}
use Rattle.par_frames.proofs.lane_work_laws.law_lane_is_left.Goals as goal

pub returns : goal.returns
returns g c =
    λ net workers w jobs histories calls logs some running quiet works l declared cap outs history old new stands leads d is.
    left g.X.Wire net workers w jobs histories calls logs some running quiet works l declared cap outs history old new stands leads d is
