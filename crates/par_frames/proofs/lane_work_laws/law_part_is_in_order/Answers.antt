use Rattle.par_frames.proofs.Parts.{part_ordered}
use Rattle.par_frames.proofs.lane_work_laws.law_part_is_in_order.Goals as goal

pub returns : goal.returns
returns g c = λ p key xs h. part_ordered p key xs h
