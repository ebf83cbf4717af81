use Rattle.law_invariant.proofs.Planning.{plan_volatile}
use Rattle.law_invariant.proofs.window_laws.law_plan_volatile.Goals as goal

pub returns : goal.returns
returns c = plan_volatile
