use Rattle.law_base.proofs.Growing.{replay_few}
use Rattle.law_base.proofs.record_laws.law_blocks_few.Goals as goal

pub returns : goal.returns
returns c s d v batch may few = replay_few s v batch d may few
