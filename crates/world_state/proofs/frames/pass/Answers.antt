use Rattle.net_model.specs.Action.{Deliver, Ok as Fine}
use Rattle.world_state.proofs.Passing.{none_done}
use Rattle.world_state.proofs.Resting.{same_parts, rests_still}
use Rattle.world_state.proofs.frames.pass.Goals as goal
use Rattle.world_state.specs.Outside.{outside}

pub returns-in-Err-clause-left : goal.returns-in-Err-clause-left
returns-in-Err-clause-left g c net w ready =
    rests_still (outside g.K.Disk g.Q.Device g.E.Entropy g.X.Wire) net w
    c.args.state.now c.args.state.now (same_parts c.args.state.now) ready.stands (Deliver c.args.lane.now c.args.number Fine)

pub returns-in-Ok-None-clause-done : goal.returns-in-Ok-None-clause-done
returns-in-Ok-None-clause-done g c net w ready =
    let none = rw c.in-Ok-None.field-0-is at (c.in-Ok-None.ensures.found net w ready.stands) in
    none_done (outside g.K.Disk g.Q.Device g.E.Entropy g.X.Wire) c.args.state.now net w c.args.lane.now c.args.number ready c.requires.fit
    c.on_wire.result (c.on_wire.ensures net w ready.stands) none
