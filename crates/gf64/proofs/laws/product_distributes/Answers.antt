use Rattle.gf64.proofs.Ring.{distributes}
use Rattle.gf64.proofs.laws.product_distributes.Goals as goal

pub returns : goal.returns
returns c = distributes
