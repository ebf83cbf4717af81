use Rattle.law_safety.proofs.Again.{adds_nothing}
use Rattle.law_safety.proofs.bound_laws.law_what_is_heard_again_adds_nothing.Goals as goal

pub returns : goal.returns
returns c = adds_nothing
