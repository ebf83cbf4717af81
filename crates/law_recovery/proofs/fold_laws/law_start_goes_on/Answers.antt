use Rattle.law_recovery.proofs.Starting.{start_goes}
use Rattle.law_recovery.proofs.fold_laws.law_start_goes_on.Goals as goal

pub returns : goal.returns
returns c = λ net w v committed conserved down enabled fits. start_goes net w v committed down enabled conserved fits
