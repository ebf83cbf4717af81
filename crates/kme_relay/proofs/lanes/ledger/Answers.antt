use Rattle.std.proofs.Common.{refl}
use Rattle.net_model.specs.Decide.{decide}
use Rattle.kme_relay.proofs.lanes.ledger.Goals as goal

pub returns : goal.returns
unfolding decide
returns c = λ v h site frames is_up random. record { batch = c.new.ensures; reply = c.counts_of.ensures v h; orders = refl; volatile = refl }
