use Rattle.qkd_network.specs.Fresh.{AreSilent}
use Rattle.qkd_network.proofs.own_bench.wires.Given as goal

abbrev pub invariant-loop : goal.invariant-loop
invariant-loop l = record { made : AreSilent l.counter l.wires.items }
