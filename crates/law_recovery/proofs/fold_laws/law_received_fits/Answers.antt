use Rattle.law_recovery.proofs.Arriving.{receiving_fits}
use Rattle.law_recovery.proofs.fold_laws.law_received_fits.Goals as goal

pub returns : goal.returns
returns c = receiving_fits
