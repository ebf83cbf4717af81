use Rattle.par_managers.proofs.Together.{worked}
use Rattle.par_managers.proofs.talk_laws.law_workers_talk.Goals as goal

pub returns : goal.returns
returns g c lanes first = worked lanes first g.M.Machine.charter g.N.Machine.charter g.M.Machine.takes g.N.Machine.takes g.M.Machine.turns g.N.Machine.turns
