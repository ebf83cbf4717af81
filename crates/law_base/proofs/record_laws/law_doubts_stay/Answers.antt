use Rattle.law_base.proofs.Doubts.{doubt_stays}
use Rattle.law_base.proofs.record_laws.law_doubts_stay.Goals as goal

pub returns : goal.returns
returns c = doubt_stays
