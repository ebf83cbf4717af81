use Rattle.std.proofs.Common.{◌≡◌, ◌^◌, ◌-◌, min, take}
use Rattle.journal_snapshot.specs.Snapshots.{need_of}
use Rattle.journal_snapshot.proofs.snapshots.Snapshots.need.Given as goal

abbrev pub invariant-loop-batch : goal.invariant-loop-batch
invariant-loop-batch g l = l.need ≡ min (need_of (take l.batch-index l.batches)) (2 ^ 64 - 1)
