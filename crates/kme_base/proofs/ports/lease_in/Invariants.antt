use Rattle.std.proofs.Common.{◌≡◌, ◌++◌, take, drop, map}
use Rattle.net_model.specs.Fold.{with_lease}
use Rattle.kme_base.specs.Places.{with_port}
use Rattle.kme_base.proofs.ports.lease_in.Given as goal

abbrev pub invariant-loop-end : goal.invariant-loop-end
invariant-loop-end l = l.ends ≡ map (with_port (with_lease l.lane l.up_to)) (take l.end-index l.initial.ends) ++ drop l.end-index l.initial.ends
