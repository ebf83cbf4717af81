use Rattle.std.proofs.Common.{◌≡◌, ◌*◌, ℕ, get_or, replicate, refl, ◌∙◌, arith}
use Rattle.std.proofs.lemmas.List.{length-set}
use Rattle.gf64.specs.Field.{poly_times, remainder}
use Rattle.gf64.proofs.Products.{first_pair, pair_more, even_is, odd_is}
use Rattle.gf64.proofs.multiples.products_of.Goals as goal

pub loop-i-init : goal.loop-i-init
loop-i-init c = record { room = refl; filled = first_pair c.args.factor (replicate 14 0) c.ranges.factor.fits }

pub loop-i-preserved : goal.loop-i-preserved
loop-i-preserved c =
    let i : ℕ = c.loop-i.i in
    let even_one : c.doubled-even.result ≡ remainder 63 (poly_times 4 c.args.factor (2 * i)) =
    c.doubled-even.ensures ∙ even_is c.args.factor i (get_or c.loop-i.products i 0) c.ranges.factor.fits (omega arith) (c.loop-i.invariant.filled i (omega arith)) in
    record {
      room = length-set _ _ _ ∙ length-set _ _ _ ∙ c.loop-i.invariant.room;
      filled = pair_more c.args.factor i _ _ c.loop-i.products c.loop-i.invariant.room (omega arith) even_one (odd_is c.args.factor i _ c.ranges.factor.fits (omega arith) even_one) c.loop-i.invariant.filled;
    }
