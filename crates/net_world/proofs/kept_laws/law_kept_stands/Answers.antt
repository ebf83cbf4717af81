use Rattle.net_world.proofs.KeptLanes.{stands_again}
use Rattle.net_world.proofs.kept_laws.law_kept_stands.Goals as goal
use Rattle.world_state.specs.Outside.{outside}

pub returns : goal.returns
returns g c old stayed site net w lanes s kept may are declared laid =
    stands_again (outside g.K.Disk g.Q.Device g.E.Entropy g.X.Wire) g.met.X.Wire.all_counted
    old stayed site net w kept may declared lanes are s laid
