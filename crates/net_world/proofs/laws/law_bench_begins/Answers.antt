use Rattle.net_world.proofs.Networks.{is_benched}
use Rattle.net_world.proofs.Firsts.{stands_first}
use Rattle.net_world.proofs.laws.law_bench_begins.Goals as goal
use Rattle.world_state.specs.Outside.{outside}

pub returns-clause-benched : goal.returns-clause-benched
returns-clause-benched g c b scenario new declared =
    is_benched (outside g.K.Disk g.Q.Device g.E.Entropy g.X.Wire) b new scenario declared c.frames_of_a_network.ensures

pub returns-clause-stands : goal.returns-clause-stands
returns-clause-stands g c old stayed site s new declared laid =
    stands_first (outside g.K.Disk g.Q.Device g.E.Entropy g.X.Wire) g.met.X.Wire.all_counted old stayed new site declared c.frames_of_a_network.ensures s laid
