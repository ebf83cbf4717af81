use Rattle.law_recovery.proofs.Restarting.{recovered_restarts}
use Rattle.law_recovery.proofs.journal_laws.law_started_is_given_back.Goals as goal

pub returns : goal.returns
returns c = λ site me batches. recovered_restarts site me batches
