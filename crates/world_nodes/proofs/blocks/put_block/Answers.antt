use Rattle.world_nodes.proofs.Taken.{may_handle, put_handled, put_wanting}
use Rattle.world_nodes.proofs.blocks.put_block.Goals as goal

pub handle-requires : goal.handle-requires
handle-requires g c =
    let a = c.requires.asked in
    record {
      asked = (
        a.0,
        a.1,
        a.2,
        may_handle g.K.Disk g.E.Entropy a.0 a.1 a.2 c.args.post.now c.args.link c.args.number c.args.block.now c.args.up a.3 c.in-Ok.bytes c.in-Ok.ensures,
      );
    }

pub returns-in-Err : goal.returns-in-Err
returns-in-Err g c net w v m =
    put_wanting g.K.Disk g.E.Entropy net w v c.args.post.now c.args.link c.args.number c.args.block.now c.args.up m

pub returns-in-Ok : goal.returns-in-Ok
returns-in-Ok g c net w v m =
    put_handled g.K.Disk g.E.Entropy net w v c.args.post.now c.args.link c.args.number c.args.block.now c.args.up m c.handle.new.post
    c.handle.result c.in-Ok.bytes c.in-Ok.ensures
    (c.handle.ensures net w v
    (may_handle g.K.Disk g.E.Entropy net w v c.args.post.now c.args.link c.args.number c.args.block.now c.args.up m c.in-Ok.bytes c.in-Ok.ensures))
