use Rattle.law_safety.proofs.conserved_laws.law_acknowledged_is_known.Goals as goal

pub returns : goal.returns
returns c = λ net w k. k.now.marked
