use Rattle.par_frames.proofs.OneLine.{are_of_line}
use Rattle.par_frames.proofs.lane_work_laws.law_frames_are_of_their_line.Goals as goal

pub returns : goal.returns
returns c = λ line wants outs is h. are_of_line line wants outs is h
