use Rattle.net_model.specs.Action.{Forge, Ok as Fine}
use Rattle.world_state.proofs.Resting.{same_parts, rests_still}
use Rattle.world_state.proofs.tampered_octets.forge.Goals as goal
use Rattle.world_state.specs.Outside.{outside}

pub returns-in-Err-clause-left : goal.returns-in-Err-clause-left
returns-in-Err-clause-left g c net w ready =
    rests_still (outside g.K.Disk g.Q.Device g.E.Entropy g.X.Wire) net w
    c.args.state.now c.args.state.now (same_parts c.args.state.now) ready.stands (Forge c.args.lane.now c.args.octets.now Fine)
