use Rattle.law_recovery.proofs.Asked.{event_fits}
use Rattle.law_recovery.proofs.fold_laws.law_events_fit.Goals as goal

pub returns : goal.returns
returns c = λ net w v event e good conserved asked is. event_fits net w v good conserved event e asked is
