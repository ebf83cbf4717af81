use Rattle.law_recovery.proofs.Arriving.{block_goes}
use Rattle.law_recovery.proofs.fold_laws.law_view_goes_on_taking.Goals as goal

pub returns : goal.returns
returns c = λ net w v link e octets conserved incident not_full is. block_goes net w v link conserved incident not_full e octets is
