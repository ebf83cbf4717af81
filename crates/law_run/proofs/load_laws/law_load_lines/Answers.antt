use Rattle.law_run.proofs.Rounds.{entries_are, tasks_are}
use Rattle.law_run.proofs.load_laws.law_load_lines.Goals as goal

pub returns-clause-entries : goal.returns-clause-entries
returns-clause-entries c = entries_are

pub returns-clause-tasks : goal.returns-clause-tasks
returns-clause-tasks c = tasks_are
