use Rattle.range_journal.proofs.Once.{stand_behind}
use Rattle.range_journal.proofs.laws.batches_behind_a_header_stand.Goals as goal

pub returns : goal.returns
returns c = stand_behind
