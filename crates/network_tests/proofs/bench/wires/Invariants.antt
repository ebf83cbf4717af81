use Rattle.std.proofs.Common.{◌≡◌, [], length}
use Rattle.std.specs.List.{All}
use Rattle.source_devices.specs.Forms.{WireForm}
use Rattle.network_tests.proofs.bench.wires.Given as goal

abbrev pub invariant-loop : goal.invariant-loop
invariant-loop l = record {
  count : length l.wires.items ≡ l.counter;
  silent : All (λ (w : WireForm). w.frames ≡ []) l.wires.items;
}
