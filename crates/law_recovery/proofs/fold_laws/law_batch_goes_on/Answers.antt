use Rattle.law_recovery.proofs.Commits.{silent_goes}
use Rattle.law_recovery.proofs.fold_laws.law_batch_goes_on.Goals as goal

pub returns : goal.returns
returns c = silent_goes
