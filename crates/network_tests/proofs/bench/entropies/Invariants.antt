use Rattle.std.proofs.Common.{◌≡◌, length}
use Rattle.std.specs.List.{All}
use Rattle.source_devices.specs.Forms.{EntropyForm}
use Rattle.network_tests.specs.Fresh.{AreOctets}
use Rattle.network_tests.proofs.bench.entropies.Given as goal

abbrev pub invariant-loop-number : goal.invariant-loop-number
invariant-loop-number l = record {
  count : length l.entropies.items ≡ l.number;
  octets : All (λ (e : EntropyForm). AreOctets e.left) l.entropies.items;
}
