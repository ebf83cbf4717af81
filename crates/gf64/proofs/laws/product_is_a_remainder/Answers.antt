use Rattle.gf64.proofs.Quotient.{is_remainder}
use Rattle.gf64.proofs.laws.product_is_a_remainder.Goals as goal

pub returns : goal.returns
returns c = is_remainder
