use Rattle.law_invariant.proofs.Decisions.{receive_may}
use Rattle.law_invariant.proofs.decision_laws.law_receiving_may.Goals as goal

pub returns : goal.returns
returns c = receive_may
