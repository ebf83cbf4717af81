use Rattle.law_run.proofs.Tasks.{tasks_are_run}
use Rattle.law_run.proofs.headline_laws.law_tasks_are_run.Goals as goal

pub returns-clause-run : goal.returns-clause-run
returns-clause-run c = λ http net workers w tasks done network conserved h. (tasks_are_run http net network workers w conserved tasks done h).0

pub returns-clause-world : goal.returns-clause-world
returns-clause-world c = λ http net workers w tasks done network conserved h. (tasks_are_run http net network workers w conserved tasks done h).1
