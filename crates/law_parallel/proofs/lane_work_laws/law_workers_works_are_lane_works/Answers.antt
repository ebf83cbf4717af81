use Rattle.law_parallel.proofs.WorkersCalls.{are_lane_works}
use Rattle.law_parallel.proofs.lane_work_laws.law_workers_works_are_lane_works.Goals as goal

pub returns : goal.returns
returns c = are_lane_works
