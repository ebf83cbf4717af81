use Rattle.std.proofs.Common.{sym}
use Rattle.gf64.proofs.Powers.{power_none, power_one}
use Rattle.gf64.proofs.Inverses.{next_square, next_product}
use Rattle.gf64.proofs.inversion.power_of_the_inverse.Goals as goal

pub loop-i-init : goal.loop-i-init
loop-i-init c = record {
  square = sym (power_one c.args.a c.ranges.a.fits);
  product = sym (power_none c.args.a);
}

pub loop-i-preserved : goal.loop-i-preserved
loop-i-preserved c =
    let more = next_square c.args.a c.loop-i._i c.loop-i.last_square c.square-last_square.result c.ranges.a.fits c.loop-i.invariant.square c.square-last_square.ensures in
    record {
      square = more;
      product = next_product c.args.a c.loop-i._i c.loop-i.inverse c.square-last_square.result c.mul-inverse.result c.ranges.a.fits c.loop-i.invariant.product more c.mul-inverse.ensures;
    }
