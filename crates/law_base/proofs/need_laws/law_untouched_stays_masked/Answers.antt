use Rattle.law_base.proofs.Staying.{untouched_masked}
use Rattle.law_base.proofs.need_laws.law_untouched_stays_masked.Goals as goal

pub returns : goal.returns
returns c = untouched_masked
