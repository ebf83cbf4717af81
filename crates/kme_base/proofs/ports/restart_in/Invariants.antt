use Rattle.std.proofs.Common.{◌≡◌, ◌++◌, take, drop, map}
use Rattle.kme_base.specs.Places.{restarted, with_port}
use Rattle.kme_base.proofs.ports.restart_in.Given as goal

abbrev pub invariant-loop-end : goal.invariant-loop-end
invariant-loop-end l = l.ends ≡ map (with_port (restarted)) (take l.end-index l.initial.ends) ++ drop l.end-index l.initial.ends
