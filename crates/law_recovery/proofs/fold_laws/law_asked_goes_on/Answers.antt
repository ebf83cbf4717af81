use Rattle.law_recovery.proofs.Turns.{ask_goes}
use Rattle.law_recovery.proofs.fold_laws.law_asked_goes_on.Goals as goal

pub returns : goal.returns
returns c = ask_goes
