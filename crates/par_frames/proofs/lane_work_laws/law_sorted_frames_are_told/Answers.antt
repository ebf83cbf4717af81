use Rattle.par_frames.proofs.SortedFrames.{are_told}
use Rattle.par_frames.proofs.lane_work_laws.law_sorted_frames_are_told.Goals as goal

pub returns : goal.returns
returns g c =
    λ net workers w jobs histories lanes left outs sorted h.
    are_told g.X.Wire net workers w jobs histories lanes left outs sorted h
