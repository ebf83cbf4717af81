use Rattle.law_safety.proofs.Counted.{own_count}
use Rattle.law_safety.proofs.conserved_laws.law_own_count_adds_up.Goals as goal

pub returns : goal.returns
returns c = λ net w conserved v link counts h. own_count net w conserved v link counts h
