use Rattle.law_invariant.proofs.Planning.{plan_wired}
use Rattle.law_invariant.proofs.window_laws.law_plan_wired.Goals as goal

pub returns : goal.returns
returns c = plan_wired
