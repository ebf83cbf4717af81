use Rattle.law_invariant.proofs.Noting.{complete_keeps}
use Rattle.law_invariant.proofs.window_laws.law_complete_keeps.Goals as goal

pub returns : goal.returns
returns c = complete_keeps
