use Rattle.law_recovery.proofs.Asked.{event_goes}
use Rattle.law_recovery.proofs.fold_laws.law_view_goes_on.Goals as goal

pub returns : goal.returns
returns c = λ net w v event e octets good conserved here asked valid is numbered. event_goes net w v good conserved here event e octets asked valid is numbered
