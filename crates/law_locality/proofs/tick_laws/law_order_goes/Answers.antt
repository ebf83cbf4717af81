use Rattle.law_locality.proofs.Orders.{order_enabled, order_goes}
use Rattle.law_locality.proofs.tick_laws.law_order_goes.Goals as goal

pub returns-clause-enabled : goal.returns-clause-enabled
returns-clause-enabled c = order_enabled

pub returns-clause-spelled : goal.returns-clause-spelled
returns-clause-spelled c net w v o es s = s.each.0.spelled

pub returns-clause-goes : goal.returns-clause-goes
returns-clause-goes c net w v o es environment network conserved s = order_goes net w v o es s environment network conserved
