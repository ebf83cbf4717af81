use Rattle.std.proofs.Common.{◌≡◌, take}
use Rattle.journal_snapshot.proofs.checkpoint.copied.Given as goal

abbrev pub invariant-loop-batch : goal.invariant-loop-batch
invariant-loop-batch l = l.copies.items ≡ take l.batch-index l.batches
