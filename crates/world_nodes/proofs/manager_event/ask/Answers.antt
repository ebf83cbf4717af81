use Rattle.world_nodes.proofs.Asks.{may_handle, asked}
use Rattle.world_nodes.proofs.manager_event.ask.Goals as goal

pub handle-requires : goal.handle-requires
handle-requires g c =
    let a = c.requires.asked in
    record { asked = (a.0, a.1, a.2, may_handle g.K.Disk g.E.Entropy a.0 a.1 a.2 c.args.event.now c.args.up c.args.post.now a.3) }

pub returns : goal.returns
returns g c net w v m =
    asked g.K.Disk g.E.Entropy net w v c.args.event.now c.args.up c.args.post.now c.handle.new.post c.handle.result m
    (c.handle.ensures net w v (may_handle g.K.Disk g.E.Entropy net w v c.args.event.now c.args.up c.args.post.now m))
