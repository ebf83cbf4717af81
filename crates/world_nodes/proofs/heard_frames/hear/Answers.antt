use Rattle.world_nodes.proofs.Delivered.{may_handle, heard}
use Rattle.world_nodes.proofs.heard_frames.hear.Goals as goal

pub handle-requires : goal.handle-requires
handle-requires g c =
    let a = c.requires.asked in
    record { asked = (a.0, a.1, _, may_handle g.K.Disk g.E.Entropy a.0 a.1 c.args.lane a.2 c.args.post.now c.args.frame c.args.up a.3) }

pub returns : goal.returns
returns g c net w number m =
    heard g.K.Disk g.E.Entropy net w c.args.lane number c.args.post.now c.args.frame c.args.up m c.handle.new.post c.handle.result
    (c.handle.ensures net w _ (may_handle g.K.Disk g.E.Entropy net w c.args.lane number c.args.post.now c.args.frame c.args.up m))
