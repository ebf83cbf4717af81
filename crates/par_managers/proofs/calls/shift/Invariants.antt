use Rattle.par_managers.proofs.Workers.{Shifting}
use Rattle.par_managers.proofs.calls.shift.Given as goal
use Rattle.world_state.specs.Outside.{outside}

abbrev pub invariant-loop-place : goal.invariant-loop-place
invariant-loop-place g l =
    Shifting (outside g.K.Disk g.Q.Device g.E.Entropy g.X.Wire) l.fn.state l.fn.workers l.fn.jobs l.fn.worker l.place l.shift.items
