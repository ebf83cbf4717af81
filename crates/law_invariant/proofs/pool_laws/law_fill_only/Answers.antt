use Rattle.law_invariant.proofs.Pairs.{fill_only}
use Rattle.law_invariant.proofs.pool_laws.law_fill_only.Goals as goal

pub returns : goal.returns
returns c = fill_only
