use Rattle.law_recovery.proofs.Restarting.{batches_push, recovered_next}
use Rattle.law_recovery.proofs.journal_laws.law_one_batch_more.Goals as goal

pub returns-clause-read : goal.returns-clause-read
returns-clause-read c = λ v batches batch. batches_push v batches batch

pub returns-clause-started : goal.returns-clause-started
returns-clause-started c = λ site me batches batch. recovered_next site me batches batch
