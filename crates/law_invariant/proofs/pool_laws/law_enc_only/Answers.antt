use Rattle.law_invariant.proofs.Pairs.{enc_only}
use Rattle.law_invariant.proofs.pool_laws.law_enc_only.Goals as goal

pub returns : goal.returns
returns c = enc_only
