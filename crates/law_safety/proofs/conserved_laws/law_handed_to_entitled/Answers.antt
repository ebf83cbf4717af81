use Rattle.law_safety.proofs.Entitled.{handed_end}
use Rattle.law_safety.proofs.conserved_laws.law_handed_to_entitled.Goals as goal

pub returns : goal.returns
returns c = handed_end
