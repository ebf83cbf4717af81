use Rattle.par_frames.proofs.Sorted.{in_part}
use Rattle.par_frames.proofs.lane_work_laws.law_sorted_is_in_order.Goals as goal

pub returns : goal.returns
returns g c = λ place key xs sorted n. in_part place key xs sorted n
