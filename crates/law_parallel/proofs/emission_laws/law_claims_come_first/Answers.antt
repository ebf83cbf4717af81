use Rattle.law_parallel.proofs.First.{claims_come_first}
use Rattle.law_parallel.proofs.emission_laws.law_claims_come_first.Goals as goal

pub returns : goal.returns
returns c = claims_come_first
