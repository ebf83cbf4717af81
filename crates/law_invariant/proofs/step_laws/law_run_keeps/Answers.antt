use Rattle.law_invariant.proofs.Steps.{run_keeps}
use Rattle.law_invariant.proofs.step_laws.law_run_keeps.Goals as goal

pub returns : goal.returns
returns c = run_keeps
