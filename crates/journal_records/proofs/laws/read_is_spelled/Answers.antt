use Rattle.journal_records.proofs.Bodies.{batch_takes}
use Rattle.journal_records.proofs.laws.read_is_spelled.Goals as goal

pub returns : goal.returns
returns c = batch_takes
