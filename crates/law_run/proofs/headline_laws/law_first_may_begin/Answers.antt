use Rattle.law_run.proofs.Resting.{first_begins}
use Rattle.law_run.proofs.headline_laws.law_first_may_begin.Goals as goal

pub returns : goal.returns
returns c = first_begins
