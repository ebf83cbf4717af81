use Rattle.std.proofs.Common.{refl}
use Rattle.net_model.specs.Decide.{decide}
use Rattle.kme_relay.proofs.tick_plan.note.Goals as goal

pub returns : goal.returns
unfolding decide
returns c site frames is_up v random placings = record { batch = c.new.ensures; reply = refl; orders = refl; volatile = refl }
