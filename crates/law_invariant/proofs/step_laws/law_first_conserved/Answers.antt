use Rattle.law_invariant.proofs.Steps.{first_keeps}
use Rattle.law_invariant.proofs.step_laws.law_first_conserved.Goals as goal

pub returns : goal.returns
returns c = first_keeps
