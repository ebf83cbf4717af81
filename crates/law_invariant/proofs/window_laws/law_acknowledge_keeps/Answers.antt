use Rattle.law_invariant.proofs.Acknowledging.{acknowledge_keeps}
use Rattle.law_invariant.proofs.window_laws.law_acknowledge_keeps.Goals as goal

pub returns : goal.returns
returns c = acknowledge_keeps
