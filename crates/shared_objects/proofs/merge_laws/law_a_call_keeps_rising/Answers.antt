use Rattle.shared_objects.proofs.Rising.{rises_on}
use Rattle.shared_objects.proofs.merge_laws.law_a_call_keeps_rising.Goals as goal

pub returns : goal.returns
returns g c = rises_on
