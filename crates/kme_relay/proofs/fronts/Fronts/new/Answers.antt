use Rattle.qkd_base.specs.Lane.{lane_place}
use Rattle.kme_relay.proofs.UnderWay.{nowhere}
use Rattle.kme_relay.proofs.fronts.Fronts.new.Goals as goal

pub returns : goal.returns
returns c l = nowhere 64 (lane_place l)
