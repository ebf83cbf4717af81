use Rattle.law_recovery.proofs.Arriving.{receive_goes}
use Rattle.law_recovery.proofs.fold_laws.law_view_goes_on_receiving.Goals as goal

pub returns : goal.returns
returns c = receive_goes
