use Rattle.model_examples.proofs.ManagerRowsProofs.{keys_followed, streams_followed, groups_followed, relay_followed}
use Rattle.model_examples.proofs.rows.manager_rows.Goals as goal

pub returns-clause-keys_followed : goal.returns-clause-keys_followed
returns-clause-keys_followed c = keys_followed

pub returns-clause-streams_followed : goal.returns-clause-streams_followed
returns-clause-streams_followed c = streams_followed

pub returns-clause-groups_followed : goal.returns-clause-groups_followed
returns-clause-groups_followed c = groups_followed

pub returns-clause-relay_followed : goal.returns-clause-relay_followed
returns-clause-relay_followed c = relay_followed
