use Rattle.law_run.proofs.Rests.{rest_is}
use Rattle.law_run.proofs.course_laws.law_octets_left.Goals as goal

pub returns : goal.returns
returns c = λ told rest n octets end. rest_is told rest n octets end
