use Rattle.law_locality.proofs.Completing.{may_complete, completes}
use Rattle.law_locality.proofs.tick_laws.law_sent_completes.Goals as goal

pub returns-clause-enabled : goal.returns-clause-enabled
returns-clause-enabled c = may_complete

pub returns-clause-quiet : goal.returns-clause-quiet
returns-clause-quiet c = completes
