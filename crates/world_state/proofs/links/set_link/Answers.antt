use Rattle.world_state.proofs.SetsLink.{link_done}
use Rattle.world_state.proofs.links.set_link.Goals as goal
use Rattle.world_state.specs.Outside.{outside}

pub returns-clause-done : goal.returns-clause-done
returns-clause-done g c net w ready =
    link_done (outside g.K.Disk g.Q.Device g.E.Entropy g.X.Wire)
    c.args.state.now net w c.args.link c.args.up ready c.requires.fit c.with_link-state.result c.with_link-state.ensures
