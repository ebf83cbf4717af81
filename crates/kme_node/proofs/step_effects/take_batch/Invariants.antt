use Rattle.std.proofs.Common.{◌≡◌, drop}
use Rattle.kme_node.specs.Ports.{ports_after}
use Rattle.kme_node.specs.Holdings.{HasBatchRoom, HasBlocksAlone}
use Rattle.kme_node.proofs.step_effects.take_batch.Given as goal

abbrev pub invariant-loop-change : goal.invariant-loop-change
invariant-loop-change l = record {
  fits : HasBlocksAlone (drop l.change-index l.batch);
  room : HasBatchRoom l.ports (drop l.change-index l.batch);
  taken : ports_after (drop l.change-index l.batch) l.ports.ports ≡ ports_after l.batch l.fn.ports.ports;
}
