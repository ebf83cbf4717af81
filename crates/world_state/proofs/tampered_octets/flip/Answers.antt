use Rattle.net_model.specs.Action.{Flip, Ok as Fine}
use Rattle.world_state.proofs.Resting.{same_parts, rests_still}
use Rattle.world_state.proofs.Tampers.{no_frame_done, no_bit_done}
use Rattle.world_state.proofs.tampered_octets.flip.Goals as goal
use Rattle.world_state.specs.Outside.{outside}

pub returns-in-Err-clause-left : goal.returns-in-Err-clause-left
returns-in-Err-clause-left g c net w ready =
    rests_still (outside g.K.Disk g.Q.Device g.E.Entropy g.X.Wire) net w
    c.args.state.now c.args.state.now (same_parts c.args.state.now) ready.stands (Flip c.args.lane.now c.args.number c.args.bit Fine)

pub returns-in-Ok-None-clause-done : goal.returns-in-Ok-None-clause-done
returns-in-Ok-None-clause-done g c net w ready =
    let none = rw c.in-Ok-None.field-0-is at (c.in-Ok-None.ensures.found net w ready.stands) in
    no_frame_done (outside g.K.Disk g.Q.Device g.E.Entropy g.X.Wire) c.args.state.now net w c.args.lane.now ready c.requires.fit
    c.args.number c.args.bit c.on_wire-count.result (c.on_wire-count.ensures net w ready.stands) none

pub returns-in-Err-changed-clause-done : goal.returns-in-Err-changed-clause-done
returns-in-Err-changed-clause-done g c net w ready =
    let found = rw c.in-Ok-Some.field-0-is at (c.in-Ok-Some.ensures.found net w ready.stands) in
    no_bit_done (outside g.K.Disk g.Q.Device g.E.Entropy g.X.Wire) c.args.state.now net w c.args.lane.now ready c.requires.fit
    c.args.number c.args.bit c.in-Err-changed.bits c.in-Ok-Some.octets found c.in-Err-changed.ensures.0 c.in-Err-changed.ensures.1
