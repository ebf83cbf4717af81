use Rattle.law_recovery.proofs.Starts.{unsettled, unsettled_rest, settled, settled_rest}
use Rattle.law_recovery.proofs.start_laws.law_start_stops.Goals as goal

pub returns-clause-unsettled : goal.returns-clause-unsettled
returns-clause-unsettled c = λ net w v m. let rest = unsettled_rest net w v m in (unsettled net w v m, rest.0, rest.1, rest.2)

pub returns-clause-settled : goal.returns-clause-settled
returns-clause-settled c = λ net w v committed m k. let rest = settled_rest net w v m committed k in (settled net w v m committed k, rest.0, rest.1, rest.2)
