use Rattle.model_examples.proofs.KeyRowsProofs.{pools, faults, entitled, not_ready, shown_keys, short_entropy, full_pool}
use Rattle.model_examples.proofs.rows.key_rows.Goals as goal

pub returns-clause-pools : goal.returns-clause-pools
returns-clause-pools c = pools

pub returns-clause-faults : goal.returns-clause-faults
returns-clause-faults c = faults

pub returns-clause-entitled : goal.returns-clause-entitled
returns-clause-entitled c = entitled

pub returns-clause-not_ready : goal.returns-clause-not_ready
returns-clause-not_ready c = not_ready

pub returns-clause-shown_keys : goal.returns-clause-shown_keys
returns-clause-shown_keys c = shown_keys

pub returns-clause-short_entropy : goal.returns-clause-short_entropy
returns-clause-short_entropy c = short_entropy

pub returns-clause-full_pool : goal.returns-clause-full_pool
returns-clause-full_pool c = full_pool
