use Rattle.par_frames.proofs.Standing.{stands}
use Rattle.par_frames.proofs.lane_block_laws.law_lanes_stand.Goals as goal
use Rattle.world_state.specs.Outside.{outside}

pub returns : goal.returns
returns g c =
    λ net workers w jobs histories lanes left old new h.
    stands (outside g.K.Disk g.Q.Device g.E.Entropy g.X.Wire) net workers w jobs histories lanes left old new h
