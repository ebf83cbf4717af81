use Rattle.std.proofs.Common.{◌≡◌, ◌*◌, ◌<◌, ◌^◌}
use Rattle.gf64.specs.Field.{poly_times, remainder}
use Rattle.gf64.proofs.multiples.Multiples.times.Given as goal

abbrev pub invariant-loop-i : goal.invariant-loop-i
invariant-loop-i l = record {
  same : remainder 63 l.sum ≡ remainder 63 (poly_times (4 * l.i) l.self-inside.factor l.other);
  low : l.sum < 2 ^ 124;
}
