use Rattle.par_frames.proofs.Ending.{ends_together}
use Rattle.par_frames.proofs.lane_block_laws.law_block_ends.Goals as goal
use Rattle.world_state.specs.Outside.{outside}

pub returns : goal.returns
returns g c =
    λ net workers w jobs histories lanes left first last went rests.
    ends_together (outside g.K.Disk g.Q.Device g.E.Entropy g.X.Wire) net workers w jobs histories lanes left first last went rests
