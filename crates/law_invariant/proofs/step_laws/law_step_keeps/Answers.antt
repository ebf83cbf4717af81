use Rattle.law_invariant.proofs.Steps.{step_keeps}
use Rattle.law_invariant.proofs.step_laws.law_step_keeps.Goals as goal

pub returns : goal.returns
returns c = step_keeps
