use Rattle.law_invariant.proofs.Decisions.{event_may}
use Rattle.law_invariant.proofs.decision_laws.law_events_may.Goals as goal

pub returns : goal.returns
returns c = event_may
