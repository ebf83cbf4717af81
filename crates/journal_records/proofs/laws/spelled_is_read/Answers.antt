use Rattle.journal_records.proofs.Bodies.{batch_again, body_long}
use Rattle.journal_records.proofs.laws.spelled_is_read.Goals as goal

pub returns-clause-read : goal.returns-clause-read
returns-clause-read c = batch_again

pub returns-clause-length : goal.returns-clause-length
returns-clause-length c = body_long
