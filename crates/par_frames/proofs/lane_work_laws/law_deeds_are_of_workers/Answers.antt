use Rattle.par_frames.proofs.OfWorkers.{of_workers}
use Rattle.par_frames.proofs.lane_work_laws.law_deeds_are_of_workers.Goals as goal

pub returns : goal.returns
returns g c = λ side outs history d workers wanted all own. of_workers side outs history d workers wanted all own
