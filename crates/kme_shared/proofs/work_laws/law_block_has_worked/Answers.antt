use Rattle.kme_shared.proofs.Whole.{has_worked, has_armed}
use Rattle.kme_shared.proofs.work_laws.law_block_has_worked.Goals as goal
use Rattle.world_state.specs.Outside.{outside}

pub returns-clause-worked : goal.returns-clause-worked
returns-clause-worked g c =
    λ opening_of node_of up_of post_of shares_in side_of shares_of old new workers jobs worked h net w ready.
    has_worked (outside g.K.Disk g.Q.Device g.E.Entropy g.X.Wire)
    opening_of node_of up_of post_of shares_in side_of shares_of old new workers jobs worked h net w ready

pub returns-clause-armed : goal.returns-clause-armed
returns-clause-armed g c =
    λ opening_of node_of up_of post_of shares_in side_of shares_of old new workers jobs worked h net w ready.
    has_armed (outside g.K.Disk g.Q.Device g.E.Entropy g.X.Wire)
    opening_of node_of up_of post_of shares_in side_of shares_of old new workers jobs worked h net w ready
