use Rattle.model_examples.proofs.GroupRowsProofs.{group_key, group_waits, group_names, two_at_home}
use Rattle.model_examples.proofs.rows.group_rows.Goals as goal

pub returns-clause-group_key : goal.returns-clause-group_key
returns-clause-group_key c = group_key

pub returns-clause-group_waits : goal.returns-clause-group_waits
returns-clause-group_waits c = group_waits

pub returns-clause-group_names : goal.returns-clause-group_names
returns-clause-group_names c = group_names

pub returns-clause-two_at_home : goal.returns-clause-two_at_home
returns-clause-two_at_home c = two_at_home
