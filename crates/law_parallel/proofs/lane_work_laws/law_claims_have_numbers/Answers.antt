use Rattle.law_parallel.proofs.Numbered.{is_numbered}
use Rattle.law_parallel.proofs.lane_work_laws.law_claims_have_numbers.Goals as goal

pub returns : goal.returns
returns c = is_numbered
