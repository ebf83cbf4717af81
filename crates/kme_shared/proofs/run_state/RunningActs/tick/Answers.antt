use Rattle.run_model.specs.Lines.{ticked}
use Rattle.world_state.specs.Rests.{Rests}
use Rattle.world_state.specs.Stands.{Stands}
use Rattle.world_state.specs.Tallied.{Tallied}
use Rattle.kme_shared.specs.declared.run_state.Running.{Running}
use Rattle.kme_shared.proofs.Carried.{plays_out, err_out}
use Rattle.kme_shared.proofs.run_state.RunningActs.tick.Goals as goal
use Rattle.world_state.specs.Outside.{outside}

pub returns-clause-done : goal.returns-clause-done
returns-clause-done g c =
    plays_out (λ (r : Running g.row.K.Denot g.row.Q.Denot g.row.E.Denot g.row.X.Denot g.K.Disk g.Q.Device g.E.Entropy g.X.Wire). r.state) (Stands (outside g.K.Disk g.Q.Device g.E.Entropy g.X.Wire))
    (Tallied (outside g.K.Disk g.Q.Device g.E.Entropy g.X.Wire)) c.args.self.now _ c.tick.result (λ net. ticked net.site c.args.quiet c.args.node) c.tick.ensures.done

pub returns-clause-left : goal.returns-clause-left
returns-clause-left g c =
    err_out (λ (r : Running g.row.K.Denot g.row.Q.Denot g.row.E.Denot g.row.X.Denot g.K.Disk g.Q.Device g.E.Entropy g.X.Wire). r.state) (Stands (outside g.K.Disk g.Q.Device g.E.Entropy g.X.Wire))
    (Tallied (outside g.K.Disk g.Q.Device g.E.Entropy g.X.Wire)) c.args.self.now _
    (Rests (outside g.K.Disk g.Q.Device g.E.Entropy g.X.Wire)) c.tick.result (λ net. ticked net.site c.args.quiet c.args.node) c.tick.ensures.left
