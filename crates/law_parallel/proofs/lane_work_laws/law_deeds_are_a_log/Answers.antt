use Rattle.law_parallel.proofs.SideBySide.{come_together}
use Rattle.law_parallel.proofs.lane_work_laws.law_deeds_are_a_log.Goals as goal

pub returns : goal.returns
returns g c entry deed kept history h = come_together entry deed kept history h
