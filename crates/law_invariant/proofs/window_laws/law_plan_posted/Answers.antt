use Rattle.law_invariant.proofs.Planning.{plan_posted}
use Rattle.law_invariant.proofs.window_laws.law_plan_posted.Goals as goal

pub returns : goal.returns
returns c = plan_posted
