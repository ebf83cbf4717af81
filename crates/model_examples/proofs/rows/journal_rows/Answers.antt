use Rattle.model_examples.proofs.JournalRowsProofs.{checkpoints, checkpoint_in_doubt, migration, checkpoint_once, blank_of_version_1, full_journal, handing_runs, used_keys}
use Rattle.model_examples.proofs.rows.journal_rows.Goals as goal

pub returns-clause-checkpoints : goal.returns-clause-checkpoints
returns-clause-checkpoints c = checkpoints

pub returns-clause-checkpoint_in_doubt : goal.returns-clause-checkpoint_in_doubt
returns-clause-checkpoint_in_doubt c = checkpoint_in_doubt

pub returns-clause-migration : goal.returns-clause-migration
returns-clause-migration c = migration

pub returns-clause-checkpoint_once : goal.returns-clause-checkpoint_once
returns-clause-checkpoint_once c = checkpoint_once

pub returns-clause-blank_of_version_1 : goal.returns-clause-blank_of_version_1
returns-clause-blank_of_version_1 c = blank_of_version_1

pub returns-clause-full_journal : goal.returns-clause-full_journal
returns-clause-full_journal c = full_journal

pub returns-clause-handing_runs : goal.returns-clause-handing_runs
returns-clause-handing_runs c = handing_runs

pub returns-clause-used_keys : goal.returns-clause-used_keys
returns-clause-used_keys c = used_keys
