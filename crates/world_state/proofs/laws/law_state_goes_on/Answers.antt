use Rattle.world_state.proofs.StateGoesOn.{state_goes_on}
use Rattle.world_state.proofs.laws.law_state_goes_on.Goals as goal
use Rattle.world_state.specs.Outside.{outside}

pub returns : goal.returns
returns g c net w a old new may s m =
    state_goes_on (outside g.K.Disk g.Q.Device g.E.Entropy g.X.Wire) old new net w a may s m
