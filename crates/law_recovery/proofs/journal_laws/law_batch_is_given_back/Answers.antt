use Rattle.law_recovery.proofs.Restarting.{batch_given}
use Rattle.law_recovery.proofs.journal_laws.law_batch_is_given_back.Goals as goal

pub returns : goal.returns
returns c = λ site me batches v batch h. batch_given site me batches v batch h
