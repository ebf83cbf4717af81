use Rattle.law_safety.proofs.conserved_laws.law_handed_once.Goals as goal

pub returns : goal.returns
returns c = λ net w k. k.now.handings.differ
