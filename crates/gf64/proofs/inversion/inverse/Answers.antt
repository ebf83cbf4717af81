use Rattle.std.proofs.Common.{◌-◌, ◌^◌, refl, ap, ◌∙◌}
use Rattle.gf64.specs.Field.{product}
use Rattle.gf64.proofs.Inverses.{inverse_is}
use Rattle.gf64.proofs.inversion.inverse.Goals as goal

pub returns-clause-product : goal.returns-clause-product
returns-clause-product c = ap (product c.args.a) c.power_of_the_inverse.ensures ∙ inverse_is c.args.a (2 ^ 64 - 2) c.ranges.a.fits c.if-a-eq0.false refl
