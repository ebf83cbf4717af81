use Rattle.std.proofs.Common.{◌≡◌, length}
use Rattle.std.specs.List.{All}
use Rattle.network_tests.specs.Fresh.{IsBlank}
use Rattle.network_tests.proofs.bench.disks.Given as goal

abbrev pub invariant-loop : goal.invariant-loop
invariant-loop l = record {
  count : length l.disks.items ≡ l.counter;
  blank : All IsBlank l.disks.items;
}
