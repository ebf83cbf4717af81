use Rattle.law_parallel.proofs.Orders.{order_enabled, order_goes}
use Rattle.law_parallel.proofs.emission_laws.law_order_goes_on.Goals as goal

pub returns-clause-enabled : goal.returns-clause-enabled
returns-clause-enabled c = order_enabled

pub returns-clause-spelled : goal.returns-clause-spelled
returns-clause-spelled c net w o es s = s.each.0.spelled

pub returns-clause-goes : goal.returns-clause-goes
returns-clause-goes c net w o es environment network conserved s = order_goes net w o es s environment network conserved
