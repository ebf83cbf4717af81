use Rattle.law_run.proofs.LoadTasks.{begins_pairs, line_pairs, tasks_pairs}
use Rattle.law_run.proofs.load_laws.law_loads_are_of_pairs.Goals as goal

pub returns-clause-begins : goal.returns-clause-begins
returns-clause-begins c = begins_pairs

pub returns-clause-line : goal.returns-clause-line
returns-clause-line c = line_pairs

pub returns-clause-tasks : goal.returns-clause-tasks
returns-clause-tasks c = tasks_pairs
