use Rattle.law_recovery.proofs.Checkpoint.{checkpoint_given}
use Rattle.law_recovery.proofs.Bare.{bare_records}
use Rattle.law_recovery.proofs.journal_laws.law_checkpoint_gives_back.Goals as goal

pub returns-clause-back : goal.returns-clause-back
returns-clause-back c = λ site me batches v h. checkpoint_given site me batches v h

pub returns-clause-bare : goal.returns-clause-bare
returns-clause-bare c = λ site me batches v h k f at. bare_records site me batches v h k f at
