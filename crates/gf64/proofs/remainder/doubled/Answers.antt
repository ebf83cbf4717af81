use Rattle.gf64.proofs.Shifts.{doubled_is}
use Rattle.gf64.proofs.remainder.doubled.Goals as goal

pub returns : goal.returns
returns c = doubled_is c.args.a c.ranges.a.fits
