use Rattle.std.proofs.Common.{ap, ◌≡◌, ◌<◌, ◌^◌, ◌∙◌, ℕ, arith, lit<}
use Rattle.gf64.specs.Field.{poly_times, remainder}
use Rattle.gf64.proofs.Multiplication.{times_none}
use Rattle.gf64.proofs.Products.{four_more, stays_low}
use Rattle.gf64.proofs.multiples.Multiples.times.Goals as goal

pub loop-i-init : goal.loop-i-init
loop-i-init c = record { same = ap (remainder 63) (times_none c.self.inside.factor c.args.other); low = lit< tt }

pub loop-i-preserved : goal.loop-i-preserved
loop-i-preserved c = record {
  same = four_more c.self.inside.factor c.args.other c.loop-i.i c.loop-i.sum _ c.self.invariant.0 (omega arith) c.loop-i.invariant.same (c.from.ensures ∙ c.self.invariant.1 _ (omega arith));
  low = stays_low c.loop-i.i c.loop-i.sum _ (omega arith) c.loop-i.invariant.low (omega (arith, c.from.ensures));
}
