use Rattle.law_locality.proofs.Chains.{block_is_run}
use Rattle.law_locality.proofs.block_laws.law_block_is_run.Goals as goal

pub returns : goal.returns
returns c = block_is_run
