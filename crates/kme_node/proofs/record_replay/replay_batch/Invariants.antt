use Rattle.std.proofs.Common.{◌≡◌, drop}
use Rattle.kme_node.specs.Ports.{ports_after}
use Rattle.kme_node.specs.Replayed.{AreWhole}
use Rattle.kme_node.proofs.Ends.{lanes_of}
use Rattle.kme_node.proofs.record_replay.replay_batch.Given as goal

abbrev pub invariant-loop-change : goal.invariant-loop-change
invariant-loop-change l = record {
  whole : AreWhole (drop l.change-index l.batch);
  lanes : lanes_of l.ports.ports ≡ lanes_of l.fn.ports.ports;
  taken : ports_after (drop l.change-index l.batch) l.ports.ports ≡ ports_after l.batch l.fn.ports.ports;
}
