use Rattle.law_run.proofs.Counting.{masters_are, slaves_are}
use Rattle.law_run.proofs.load_laws.law_masters_and_slaves.Goals as goal

pub returns-clause-masters : goal.returns-clause-masters
returns-clause-masters c = masters_are

pub returns-clause-slaves : goal.returns-clause-slaves
returns-clause-slaves c = slaves_are
