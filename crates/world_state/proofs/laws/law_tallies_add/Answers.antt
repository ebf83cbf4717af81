use Rattle.world_state.proofs.Tallies.{none_tallied, tallied_more}
use Rattle.world_state.proofs.laws.law_tallies_add.Goals as goal
use Rattle.world_state.specs.Outside.{outside}

pub returns-clause-none : goal.returns-clause-none
returns-clause-none g c s sited has = none_tallied (outside g.K.Disk g.Q.Device g.E.Entropy g.X.Wire) sited s has

pub returns-clause-more : goal.returns-clause-more
returns-clause-more g c a b d sited xs ys h k = tallied_more (outside g.K.Disk g.Q.Device g.E.Entropy g.X.Wire) sited a b d xs ys h k
