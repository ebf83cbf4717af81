use Rattle.law_base.proofs.Blind.{masked_twice}
use Rattle.law_base.proofs.need_laws.law_masked_twice.Goals as goal

pub returns : goal.returns
returns c = masked_twice
