use Rattle.law_run.proofs.Served.{course_is_run}
use Rattle.law_run.proofs.headline_laws.law_course_is_run.Goals as goal

pub returns : goal.returns
returns c = course_is_run
