use Rattle.std.proofs.Common.{[]}
use Rattle.net_model.specs.Action.{Deliver, Ok as Fine}
use Rattle.run_model.specs.Script.{asks}
use Rattle.run_ops.specs.Reported.{delivered}
use Rattle.world_state.specs.Rests.{Rests}
use Rattle.world_state.specs.Stands.{Stands}
use Rattle.world_state.specs.Tallied.{Tallied}
use Rattle.kme_shared.specs.declared.run_state.Running.{Running}
use Rattle.kme_shared.proofs.Carried.{ok_out, err_out}
use Rattle.kme_shared.proofs.run_state.RunningActs.pass.Goals as goal
use Rattle.world_state.specs.Outside.{outside}

pub returns-clause-done : goal.returns-clause-done
returns-clause-done g c =
    ok_out (λ (r : Running g.row.K.Denot g.row.Q.Denot g.row.E.Denot g.row.X.Denot g.K.Disk g.Q.Device g.E.Entropy g.X.Wire). r.state) (Stands (outside g.K.Disk g.Q.Device g.E.Entropy g.X.Wire))
    (Tallied (outside g.K.Disk g.Q.Device g.E.Entropy g.X.Wire)) c.args.self.now _ c.pass.result (Deliver c.args.lane c.args.number Fine) delivered c.pass.ensures.done

pub returns-clause-left : goal.returns-clause-left
returns-clause-left g c =
    err_out (λ (r : Running g.row.K.Denot g.row.Q.Denot g.row.E.Denot g.row.X.Denot g.K.Disk g.Q.Device g.E.Entropy g.X.Wire). r.state) (Stands (outside g.K.Disk g.Q.Device g.E.Entropy g.X.Wire))
    (Tallied (outside g.K.Disk g.Q.Device g.E.Entropy g.X.Wire)) c.args.self.now _
    (Rests (outside g.K.Disk g.Q.Device g.E.Entropy g.X.Wire)) c.pass.result (λ net. asks (Deliver c.args.lane c.args.number Fine) (λ outcome. [])) c.pass.ensures.left
