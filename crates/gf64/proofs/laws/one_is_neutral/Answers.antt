use Rattle.gf64.proofs.Ring.{one_is_neutral}
use Rattle.gf64.proofs.laws.one_is_neutral.Goals as goal

pub returns : goal.returns
returns c = one_is_neutral
