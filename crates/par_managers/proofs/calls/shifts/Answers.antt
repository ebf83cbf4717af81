use Rattle.std.proofs.Common.{map, [], ◌∷◌, ap, ◌∙◌}
use Rattle.std.proofs.lemmas.List.{map-append}
use Rattle.par_managers.proofs.Workers.{one_shift}
use Rattle.par_managers.proofs.calls.shifts.Goals as goal
use Rattle.world_state.specs.Outside.{outside}

pub loop-worker-preserved : goal.loop-worker-preserved
loop-worker-preserved g c =
    one_shift (outside g.K.Disk g.Q.Device g.E.Entropy g.X.Wire) c.args.state.now c.args.workers c.args.jobs.now c.loop-worker.worker
    (map (λ shift. shift.items) c.loop-worker.shifts.items) (map (λ shift. shift.items) c.push.new.self.items) c.in_ok-shift.field-0.items
    (ap (map (λ shift. shift.items)) c.in_ok-push.ensures.items ∙ map-append (λ shift. shift.items) c.loop-worker.shifts.items (c.in_ok-shift.field-0 ∷ []))
    c.loop-worker.invariant c.in_ok-shift.ensures.asked c.in_ok-shift.ensures.coming c.in_ok-shift.ensures.entries
