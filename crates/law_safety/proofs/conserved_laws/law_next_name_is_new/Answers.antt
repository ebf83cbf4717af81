use Rattle.law_safety.proofs.Fresh.{fact_below, key_below}
use Rattle.law_safety.proofs.conserved_laws.law_next_name_is_new.Goals as goal

pub returns-clause-facts : goal.returns-clause-facts
returns-clause-facts c = fact_below

pub returns-clause-keys : goal.returns-clause-keys
returns-clause-keys c = key_below
