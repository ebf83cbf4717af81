use Rattle.std.proofs.Common.{◌≡◌, ◌++◌, take, drop, map}
use Rattle.kme_base.specs.Places.{need_within, with_port}
use Rattle.kme_base.proofs.ports.plan_in_each.Given as goal

abbrev pub invariant-loop-end : goal.invariant-loop-end
invariant-loop-end l = l.ends ≡ map (with_port (need_within l.orders)) (take l.end-index l.initial.ends) ++ drop l.end-index l.initial.ends
