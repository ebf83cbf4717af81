use Rattle.std.proofs.Common.{◌≡◌, length}
use Rattle.std.specs.List.{All}
use Rattle.source_devices.specs.Forms.{DeviceForm}
use Rattle.network_tests.specs.Fresh.{AreOctets}
use Rattle.network_tests.proofs.bench.devices.Given as goal

abbrev pub invariant-loop-number : goal.invariant-loop-number
invariant-loop-number l = record {
  count : length l.devices.items ≡ l.number;
  octets : All (λ (q : DeviceForm). AreOctets q.octets) l.devices.items;
}
