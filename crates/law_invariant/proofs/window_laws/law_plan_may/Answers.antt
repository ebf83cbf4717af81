use Rattle.law_invariant.proofs.Orders.{plan_may}
use Rattle.law_invariant.proofs.window_laws.law_plan_may.Goals as goal

pub returns : goal.returns
returns c = plan_may
