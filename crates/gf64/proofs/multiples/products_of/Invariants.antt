use Rattle.std.proofs.Common.{◌≡◌, ◌*◌, length}
use Rattle.gf64.specs.Multiples.{AreMultiples}
use Rattle.gf64.proofs.multiples.products_of.Given as goal

abbrev pub invariant-loop-i : goal.invariant-loop-i
invariant-loop-i l = record {
  room : length l.products ≡ 16;
  filled : AreMultiples l.factor (2 * l.i) l.products;
}
