use Rattle.net_world.proofs.Views.{is_shown}
use Rattle.net_world.proofs.laws.law_bench_is_shown.Goals as goal
use Rattle.world_state.specs.Outside.{outside}

pub returns : goal.returns
returns g c old new honest =
    is_shown (outside g.K.Disk g.Q.Device g.E.Entropy g.X.Wire) g.met.K.Disk.content_is_image old new honest
