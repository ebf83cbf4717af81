use Rattle.net_world.proofs.Kept.{new_is_kept}
use Rattle.net_world.proofs.KeptLanes.{nothing_kept, laid_anew}
use Rattle.net_world.proofs.kept_laws.law_new_is_kept.Goals as goal
use Rattle.world_state.specs.Outside.{outside}

pub returns-clause-kept : goal.returns-clause-kept
returns-clause-kept g c b site new declared =
    new_is_kept (outside g.K.Disk g.Q.Device g.E.Entropy g.X.Wire) b new site declared c.frames_of_a_network.ensures

pub returns-clause-lanes : goal.returns-clause-lanes
returns-clause-lanes g c net = nothing_kept net

pub returns-clause-laid : goal.returns-clause-laid
returns-clause-laid g c old stayed site s laid = laid_anew old stayed site s laid
