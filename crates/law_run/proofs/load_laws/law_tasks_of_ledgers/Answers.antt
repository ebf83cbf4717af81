use Rattle.law_run.proofs.LoadTasks.{no_ledgers, ledgers_alone, ledgers_then}
use Rattle.law_run.proofs.load_laws.law_tasks_of_ledgers.Goals as goal

pub returns-clause-none : goal.returns-clause-none
returns-clause-none c = no_ledgers

pub returns-clause-alone : goal.returns-clause-alone
returns-clause-alone c = ledgers_alone

pub returns-clause-more : goal.returns-clause-more
returns-clause-more c = ledgers_then
