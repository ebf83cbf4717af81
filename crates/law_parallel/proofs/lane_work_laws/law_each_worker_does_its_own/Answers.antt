use Rattle.law_parallel.proofs.ByWorker.{each_its_own}
use Rattle.law_parallel.proofs.lane_work_laws.law_each_worker_does_its_own.Goals as goal

pub returns : goal.returns
returns c = each_its_own
