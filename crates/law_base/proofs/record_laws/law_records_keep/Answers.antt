use Rattle.law_base.proofs.Keeping.{replay_keeps}
use Rattle.law_base.proofs.record_laws.law_records_keep.Goals as goal

pub returns : goal.returns
returns c = replay_keeps
