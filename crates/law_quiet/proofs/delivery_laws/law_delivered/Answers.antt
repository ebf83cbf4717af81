use Rattle.law_quiet.proofs.Delivering.{delivered}
use Rattle.law_quiet.proofs.delivery_laws.law_delivered.Goals as goal

pub returns : goal.returns
returns c = delivered
