use Rattle.std.proofs.Common.{arith}
use Rattle.journal_snapshot.proofs.Areas.{area_long, need_is}
use Rattle.journal_snapshot.proofs.snapshots.finish.Goals as goal

pub settled-requires-clause-length : goal.settled-requires-clause-length
settled-requires-clause-length g c = omega (arith, c.requires.need, area_long c.args.draft.batches.items, need_is c.args.draft.batches.items)
