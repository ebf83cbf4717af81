use Rattle.law_safety.proofs.Starting.{doubt_is_either}
use Rattle.law_safety.proofs.conserved_laws.law_doubt_is_either.Goals as goal

pub returns : goal.returns
returns c = doubt_is_either
