use Rattle.law_base.proofs.Staying.{needed_stays}
use Rattle.law_base.proofs.need_laws.law_needed_stays.Goals as goal

pub returns : goal.returns
returns c = needed_stays
