use Rattle.par_managers.proofs.Talking.{talks}
use Rattle.par_managers.proofs.talk_laws.law_a_worker_talks.Goals as goal

pub returns : goal.returns
returns g c = talks
