use Rattle.par_frames.proofs.Counting.{all_tallied}
use Rattle.par_frames.proofs.lane_block_laws.law_blocks_are_tallied.Goals as goal
use Rattle.world_state.specs.Outside.{outside}

pub returns : goal.returns
returns g c =
    λ net workers w jobs histories lanes left first old new last h turned same sides.
    all_tallied (outside g.K.Disk g.Q.Device g.E.Entropy g.X.Wire) net workers w jobs histories lanes left first old new last h turned same sides
