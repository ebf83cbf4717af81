use Rattle.law_quiet.proofs.Delivering.{paid_for}
use Rattle.law_quiet.proofs.delivery_laws.law_delivered_is_paid.Goals as goal

pub returns : goal.returns
returns c = paid_for
