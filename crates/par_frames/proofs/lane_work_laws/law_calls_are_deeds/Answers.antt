use Rattle.par_frames.proofs.Together.{done}
use Rattle.par_frames.proofs.lane_work_laws.law_calls_are_deeds.Goals as goal

pub returns : goal.returns
returns g c = λ side outs calls history h. done side outs calls history h
