use Rattle.par_frames.proofs.OnALane.{all_kept_emitted}
use Rattle.par_frames.proofs.lane_work_laws.law_kept_are_on_their_lanes.Goals as goal

pub returns : goal.returns
returns c = λ l outs h. all_kept_emitted l outs h
