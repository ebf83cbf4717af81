use Rattle.law_recovery.proofs.Checkpoint.{same_batches, same_need}
use Rattle.law_recovery.proofs.journal_laws.law_checkpoint_is_of_what_is_given_back.Goals as goal

pub returns-clause-batches : goal.returns-clause-batches
returns-clause-batches c = λ a b h. same_batches a b h

pub returns-clause-need : goal.returns-clause-need
returns-clause-need c = λ a b h. same_need a b h
