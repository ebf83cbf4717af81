use Rattle.law_safety.proofs.Lives.{few}
use Rattle.law_safety.proofs.bound_laws.law_acknowledgements_are_few.Goals as goal

pub returns : goal.returns
returns c = few
