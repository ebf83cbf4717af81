use Rattle.law_run.proofs.LoadTasks.{begins_ledgers, other_ledgers, line_ledgers}
use Rattle.law_run.proofs.load_laws.law_lines_of_ledgers.Goals as goal

pub returns-clause-begins : goal.returns-clause-begins
returns-clause-begins c = begins_ledgers

pub returns-clause-others : goal.returns-clause-others
returns-clause-others c = other_ledgers

pub returns-clause-ledger : goal.returns-clause-ledger
returns-clause-ledger c = line_ledgers
