use Rattle.gf64.proofs.Idempotents.{two_idempotents}
use Rattle.gf64.proofs.laws.two_idempotents.Goals as goal

pub returns : goal.returns
returns c = two_idempotents
