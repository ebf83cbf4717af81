use Rattle.par_frames.proofs.Runs.{lane_by_lane}
use Rattle.par_frames.proofs.lane_work_laws.law_sorted_frames_stand_lane_by_lane.Goals as goal

pub returns : goal.returns
returns c = λ s sorted h order. lane_by_lane s sorted h order
