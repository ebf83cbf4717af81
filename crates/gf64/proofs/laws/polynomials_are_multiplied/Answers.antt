use Rattle.gf64.proofs.Convolution.{is_convolution}
use Rattle.gf64.proofs.laws.polynomials_are_multiplied.Goals as goal

pub returns : goal.returns
returns c = is_convolution
