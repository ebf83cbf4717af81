use Rattle.std.proofs.Common.{◌≡◌, List, take}
use Rattle.net_model.specs.declared.record.Record.{Record}
use Rattle.net_model.specs.Fold.{view_batches}
use Rattle.kme_node.specs.Holdings.{view}
use Rattle.kme_journal.specs.BatchRecovery.{AreReadAs}
use Rattle.kme_journal.proofs.batch_replay.replay.Given as goal

abbrev pub invariant-loop-place : goal.invariant-loop-place
invariant-loop-place l = record {
  site : l.node.site ≡ l.initial.node.site;
  taken : (story : List (List Record)) × AreReadAs l.version (take l.place l.batches) story × (view l.node ≡ view_batches (view l.initial.node) story);
}
