use Rattle.law_safety.proofs.conserved_laws.law_stored_is_known.Goals as goal

pub returns-clause-target : goal.returns-clause-target
returns-clause-target c = λ net w k. k.now.stored.target

pub returns-clause-once : goal.returns-clause-once
returns-clause-once c = λ net w k. k.now.stored.once
