use Rattle.std.specs.Prelude.{Some}
use Rattle.source_devices.specs.KeyStream.{entropy_told, told_from}
use Rattle.qkd_network.specs.Fresh.{AreNumbered}
use Rattle.qkd_network.proofs.own_bench.entropies.Given as goal

abbrev pub invariant-loop-number : goal.invariant-loop-number
invariant-loop-number l = record { made : AreNumbered (λ s. Some (told_from s)) entropy_told l.number l.entropies.items }
