use Rattle.gf64.proofs.Ring.{associates}
use Rattle.gf64.proofs.laws.product_associates.Goals as goal

pub returns : goal.returns
returns c = associates
