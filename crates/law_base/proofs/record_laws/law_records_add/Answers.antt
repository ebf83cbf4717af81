use Rattle.law_base.proofs.Growing.{replay_grows}
use Rattle.law_base.proofs.record_laws.law_records_add.Goals as goal

pub returns-clause-facts : goal.returns-clause-facts
returns-clause-facts c s d v batch = (replay_grows s v batch d).facts

pub returns-clause-known : goal.returns-clause-known
returns-clause-known c s d v batch = (replay_grows s v batch d).known
