use Rattle.journal_snapshot.proofs.Once.{closing_stands}
use Rattle.journal_snapshot.proofs.laws.a_gate_that_is_closed_adds_nothing.Goals as goal

pub returns : goal.returns
returns c = closing_stands
