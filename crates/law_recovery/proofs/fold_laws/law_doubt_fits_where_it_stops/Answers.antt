use Rattle.law_recovery.proofs.Doubtful.{doubt_fits}
use Rattle.law_recovery.proofs.fold_laws.law_doubt_fits_where_it_stops.Goals as goal

pub returns : goal.returns
returns c = doubt_fits
