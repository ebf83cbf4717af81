use Rattle.law_safety.proofs.ConservedNames.{one_list}
use Rattle.law_safety.proofs.conserved_laws.law_one_byte_list.Goals as goal

pub returns : goal.returns
returns c = one_list
