use Rattle.kme_store.proofs.Courses.{asks}
use Rattle.kme_store.proofs.laws.a_network_asks_as_its_managers_answer.Goals as goal

pub returns : goal.returns
returns c = asks
