use Rattle.par_frames.proofs.Desks.{both_called, none_called}
use Rattle.par_frames.proofs.lane_work_laws.law_desks_are_called_on.Goals as goal

pub returns-clause-both : goal.returns-clause-both
returns-clause-both g c = λ side machine place xs ys said later h k. both_called side machine place xs ys said later h k

pub returns-clause-none : goal.returns-clause-none
returns-clause-none g c = λ side machine place said h. none_called side machine place said h
