use Rattle.law_parallel.proofs.NoneLeft.{may_note}
use Rattle.law_parallel.proofs.emission_laws.law_none_remains.Goals as goal

pub returns : goal.returns
returns c net w v s node = may_note net w s v node
