use Rattle.par_frames.proofs.Ending.{does_together}
use Rattle.par_frames.proofs.lane_block_laws.law_block_is_done.Goals as goal
use Rattle.world_state.specs.Outside.{outside}

pub returns : goal.returns
returns g c =
    λ net workers w jobs histories lanes left first last went sorted done tells stands turns puts.
    does_together (outside g.K.Disk g.Q.Device g.E.Entropy g.X.Wire) net workers w jobs histories lanes left first last went sorted done tells stands turns puts
