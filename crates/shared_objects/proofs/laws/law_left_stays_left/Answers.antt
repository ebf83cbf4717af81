use Rattle.shared_objects.proofs.Staying.{stays_left}
use Rattle.shared_objects.proofs.laws.law_left_stays_left.Goals as goal

pub returns : goal.returns
returns g c = stays_left g.A.Machine.charter g.B.Machine.charter g.A.Machine.takes g.B.Machine.takes g.A.Machine.turns g.B.Machine.turns
