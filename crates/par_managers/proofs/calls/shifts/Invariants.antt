use Rattle.std.proofs.Common.{map}
use Rattle.par_managers.proofs.Workers.{SoManyShifts}
use Rattle.par_managers.proofs.calls.shifts.Given as goal
use Rattle.world_state.specs.Outside.{outside}

abbrev pub invariant-loop-worker : goal.invariant-loop-worker
invariant-loop-worker g l =
    SoManyShifts (outside g.K.Disk g.Q.Device g.E.Entropy g.X.Wire) l.fn.state l.fn.workers l.fn.jobs l.worker (map (λ shift. shift.items) l.shifts.items)
