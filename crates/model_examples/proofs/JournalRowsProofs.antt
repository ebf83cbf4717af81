use Rattle.std.proofs.Common.{refl}
use Rattle.model_examples.specs.JournalRows.{Checkpoints, CheckpointInDoubt, Migration, CheckpointOnce, BlankOfVersion1, FullJournal, HandingRuns, UsedKeys}
use Rattle.model_examples.proofs.Opened.{opened}

pub checkpoints : Checkpoints
unfolding opened
checkpoints = refl

pub checkpoint_in_doubt : CheckpointInDoubt
unfolding opened
checkpoint_in_doubt = refl

pub migration : Migration
unfolding opened
migration = refl

pub checkpoint_once : CheckpointOnce
unfolding opened
checkpoint_once = refl

pub blank_of_version_1 : BlankOfVersion1
unfolding opened
blank_of_version_1 = (refl, refl)

pub full_journal : FullJournal
unfolding opened
full_journal = refl

pub handing_runs : HandingRuns
unfolding opened
handing_runs = refl

pub used_keys : UsedKeys
unfolding opened
used_keys = refl
