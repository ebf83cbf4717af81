use Rattle.law_safety.proofs.Starting.{start_gives_up}
use Rattle.law_safety.proofs.conserved_laws.law_start_gives_up.Goals as goal

pub returns : goal.returns
returns c = start_gives_up
