use Rattle.par_frames.proofs.InOrder.{in_order}
use Rattle.par_frames.proofs.lane_work_laws.law_kept_are_in_order.Goals as goal

pub returns : goal.returns
returns g c = λ side outs history d sorted h up. in_order side outs history d sorted h up
