use Rattle.law_invariant.proofs.Entries.{cleared_keeps}
use Rattle.law_invariant.proofs.window_laws.law_cleared_keeps.Goals as goal

pub returns : goal.returns
returns c = cleared_keeps
