use Rattle.law_quiet.proofs.Chains.{all_open}
use Rattle.law_quiet.proofs.chain_laws.law_all_up_is_open.Goals as goal

pub returns : goal.returns
returns c = λ net w f network all chain. all_open net network w all f chain
