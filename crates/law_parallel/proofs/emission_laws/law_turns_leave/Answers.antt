use Rattle.law_parallel.proofs.Turns.{turns_leave}
use Rattle.law_parallel.proofs.emission_laws.law_turns_leave.Goals as goal

pub returns : goal.returns
returns c = turns_leave
