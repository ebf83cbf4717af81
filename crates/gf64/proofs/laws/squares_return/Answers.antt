use Rattle.gf64.proofs.Inverses.{squares_return}
use Rattle.gf64.proofs.laws.squares_return.Goals as goal

pub returns : goal.returns
returns c = squares_return
