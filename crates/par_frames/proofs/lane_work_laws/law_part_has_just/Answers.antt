use Rattle.par_frames.proofs.Parts.{just_part}
use Rattle.par_frames.proofs.lane_work_laws.law_part_has_just.Goals as goal

pub returns : goal.returns
returns g c = λ p xs ys h. just_part p xs ys h
