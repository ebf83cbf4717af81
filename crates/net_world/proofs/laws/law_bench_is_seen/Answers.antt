use Rattle.net_world.proofs.Ends.{is_seen}
use Rattle.net_world.proofs.laws.law_bench_is_seen.Goals as goal
use Rattle.world_state.specs.Outside.{outside}

pub returns : goal.returns
returns g c reading old new site actions w seen h may leads reads on =
    is_seen (outside g.K.Disk g.Q.Device g.E.Entropy g.X.Wire)
    old new site actions w h.fresh h.declared c.frames_of_a_network.ensures h.ran may leads reading seen reads on
