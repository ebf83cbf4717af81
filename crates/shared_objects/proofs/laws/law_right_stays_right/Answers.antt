use Rattle.shared_objects.proofs.Staying.{stays_right}
use Rattle.shared_objects.proofs.laws.law_right_stays_right.Goals as goal

pub returns : goal.returns
returns g c = stays_right g.A.Machine.charter g.B.Machine.charter g.A.Machine.takes g.B.Machine.takes g.A.Machine.turns g.B.Machine.turns
