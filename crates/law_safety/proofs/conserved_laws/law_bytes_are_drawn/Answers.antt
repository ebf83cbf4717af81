use Rattle.law_safety.proofs.conserved_laws.law_bytes_are_drawn.Goals as goal

pub returns : goal.returns
returns c = λ net w k. k.drawn.table
