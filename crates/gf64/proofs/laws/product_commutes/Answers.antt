use Rattle.gf64.proofs.Ring.{commutes}
use Rattle.gf64.proofs.laws.product_commutes.Goals as goal

pub returns : goal.returns
returns c = commutes
