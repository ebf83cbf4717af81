use Rattle.gf64.proofs.Inverses.{no_zero_divisors}
use Rattle.gf64.proofs.laws.no_zero_divisors.Goals as goal

pub returns : goal.returns
returns c = no_zero_divisors
