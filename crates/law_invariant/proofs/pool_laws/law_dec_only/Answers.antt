use Rattle.law_invariant.proofs.Pairs.{dec_only}
use Rattle.law_invariant.proofs.pool_laws.law_dec_only.Goals as goal

pub returns : goal.returns
returns c = dec_only
