use Rattle.std.proofs.Common.{◌≡◌, drop}
use Rattle.kme_base.specs.Places.{LinkEnds}
use Rattle.kme_node.specs.Holdings.{HasBatchRoom}
use Rattle.kme_node.proofs.step_memory.room_ports.Given as goal

abbrev pub invariant-loop-change : goal.invariant-loop-change
invariant-loop-change l = record {
  ports : l.ports.ports ≡ l.fn.ports.ports;
  room : (ends : LinkEnds) → HasBatchRoom ends (drop l.change-index l.batch) → HasBatchRoom ends l.batch;
}
