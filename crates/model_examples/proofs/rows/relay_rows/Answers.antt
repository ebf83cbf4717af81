use Rattle.model_examples.proofs.RelayRowsProofs.{relay, relay_crash}
use Rattle.model_examples.proofs.rows.relay_rows.Goals as goal

pub returns-clause-relay : goal.returns-clause-relay
returns-clause-relay c = relay

pub returns-clause-relay_crash : goal.returns-clause-relay_crash
returns-clause-relay_crash c = relay_crash
