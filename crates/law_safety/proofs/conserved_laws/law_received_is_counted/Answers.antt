use Rattle.law_safety.proofs.Sums.{counted}
use Rattle.law_safety.proofs.conserved_laws.law_received_is_counted.Goals as goal

pub returns : goal.returns
returns c = counted
