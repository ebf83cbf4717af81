use Rattle.std.proofs.Common.{◌≡◌, ◌+◌, ◌-◌, ◌^◌}
use Rattle.gf64.specs.Field.{power}
use Rattle.gf64.proofs.inversion.power_of_the_inverse.Given as goal

abbrev pub invariant-loop-i : goal.invariant-loop-i
invariant-loop-i l = record {
  square : l.last_square ≡ power l.a (2 ^ l._i);
  product : l.inverse ≡ power l.a (2 ^ (l._i + 1) - 2);
}
