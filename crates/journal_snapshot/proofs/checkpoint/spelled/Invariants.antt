use Rattle.std.proofs.Common.{◌≡◌, ◌++◌, take, replicate}
use Rattle.range_journal.specs.Batches.{spelled}
use Rattle.journal_snapshot.proofs.checkpoint.spelled.Given as goal

abbrev pub invariant-loop-batch : goal.invariant-loop-batch
invariant-loop-batch l = l.block.items ≡ replicate l.zeros 0 ++ spelled (take l.batch-index l.batches)
