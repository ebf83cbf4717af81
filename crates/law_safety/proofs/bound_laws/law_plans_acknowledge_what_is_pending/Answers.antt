use Rattle.law_safety.proofs.Plans.{of_pending}
use Rattle.law_safety.proofs.bound_laws.law_plans_acknowledge_what_is_pending.Goals as goal

pub returns : goal.returns
returns c = of_pending
