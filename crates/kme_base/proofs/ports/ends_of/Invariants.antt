use Rattle.std.proofs.Common.{◌≡◌, take, map}
use Rattle.net_model.specs.Fold.{empty_port}
use Rattle.kme_base.specs.Places.{ports_in}
use Rattle.kme_base.proofs.ports.ends_of.Given as goal

abbrev pub invariant-loop-lane : goal.invariant-loop-lane
invariant-loop-lane l = ports_in l.ends.items ≡ map empty_port (take l.lane-index l.lanes)
