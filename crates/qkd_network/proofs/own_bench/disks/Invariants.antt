use Rattle.qkd_network.specs.Fresh.{AreBlank}
use Rattle.qkd_network.proofs.own_bench.disks.Given as goal

abbrev pub invariant-loop : goal.invariant-loop
invariant-loop l = record { made : AreBlank l.counter l.disks.items }
