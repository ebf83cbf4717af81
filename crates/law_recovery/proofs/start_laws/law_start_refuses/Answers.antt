use Rattle.law_recovery.proofs.Starts.{wants_memory, is_foreign}
use Rattle.law_recovery.proofs.start_laws.law_start_refuses.Goals as goal

pub returns-clause-memory : goal.returns-clause-memory
returns-clause-memory c = λ net w v m. wants_memory net w v m

pub returns-clause-foreign : goal.returns-clause-foreign
returns-clause-foreign c = λ net w v m blank stopped. is_foreign net w v m blank stopped
