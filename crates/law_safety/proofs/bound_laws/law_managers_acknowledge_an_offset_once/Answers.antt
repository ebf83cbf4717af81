use Rattle.law_safety.proofs.Turns.{few}
use Rattle.law_safety.proofs.bound_laws.law_managers_acknowledge_an_offset_once.Goals as goal

pub returns : goal.returns
returns c = few
