use Rattle.law_run.proofs.Outcomes.{turns_by_themselves}
use Rattle.law_run.proofs.headline_laws.law_turns_by_themselves.Goals as goal

pub returns : goal.returns
returns c = turns_by_themselves
