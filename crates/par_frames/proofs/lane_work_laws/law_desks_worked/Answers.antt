use Rattle.par_frames.proofs.Desks.{desk_worked}
use Rattle.par_frames.proofs.lane_work_laws.law_desks_worked.Goals as goal

pub returns : goal.returns
returns g c = λ side machine place outs said history h. desk_worked _ _ side machine place outs said history h
