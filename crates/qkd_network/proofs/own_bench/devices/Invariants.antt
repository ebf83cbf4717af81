use Rattle.std.specs.Prelude.{Some}
use Rattle.source_devices.specs.KeyStream.{device_told}
use Rattle.qkd_network.specs.Fresh.{AreNumbered}
use Rattle.qkd_network.proofs.own_bench.devices.Given as goal

abbrev pub invariant-loop-number : goal.invariant-loop-number
invariant-loop-number l = record { made : AreNumbered (λ s. Some (device_told s)) device_told l.number l.devices.items }
