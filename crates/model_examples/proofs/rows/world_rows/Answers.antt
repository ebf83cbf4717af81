use Rattle.model_examples.proofs.WorldRowsProofs.{resting, same_frame, ownership, first_starts, first_foreign, legal, illegal}
use Rattle.model_examples.proofs.rows.world_rows.Goals as goal

pub returns-clause-resting : goal.returns-clause-resting
returns-clause-resting c = resting

pub returns-clause-same_frame : goal.returns-clause-same_frame
returns-clause-same_frame c = same_frame

pub returns-clause-ownership : goal.returns-clause-ownership
returns-clause-ownership c = ownership

pub returns-clause-first_starts : goal.returns-clause-first_starts
returns-clause-first_starts c = first_starts

pub returns-clause-first_foreign : goal.returns-clause-first_foreign
returns-clause-first_foreign c = first_foreign

pub returns-clause-legal : goal.returns-clause-legal
returns-clause-legal c = legal

pub returns-clause-illegal : goal.returns-clause-illegal
returns-clause-illegal c = illegal
