use Rattle.law_recovery.proofs.Steps.{step_moves}
use Rattle.law_recovery.proofs.recovery_laws.law_step_moves_journals.Goals as goal

pub returns : goal.returns
returns c = λ net w a network conserved fits may v. step_moves net w network conserved fits a may v
