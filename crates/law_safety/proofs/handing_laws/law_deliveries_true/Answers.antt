use Rattle.law_safety.proofs.Runs.{deliveries_true, deliveries_new}
use Rattle.law_safety.proofs.handing_laws.law_deliveries_true.Goals as goal

pub returns-clause-all : goal.returns-clause-all
returns-clause-all c = deliveries_true

pub returns-clause-new : goal.returns-clause-new
returns-clause-new c = deliveries_new
