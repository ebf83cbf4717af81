use Rattle.std.proofs.Common.{ap, ◌∙◌}
use Rattle.net_model.specs.OctetSequence.{block_at}
use Rattle.world_nodes.proofs.Blocked.{taken_down, taken_full, taken_ended, taken_failed, may_put}
use Rattle.world_nodes.proofs.blocks.take_block.Goals as goal

pub put_block-requires : goal.put_block-requires
put_block-requires g c =
    let a = c.requires.asked in
    record {
      asked = (
        a.0,
        a.1,
        a.2,
        may_put g.K.Disk g.E.Entropy a.0 a.1 a.2 c.args.post.now c.args.link c.args.up a.4 c.next_number.result c.in-Some.number c.in-Some.is
            (c.next_number.ensures a.0 a.1 a.2 c.args.up a.4) _ c.if-number-eq1024.false (g.Q.Device.told c.args.device.now) a.3 c.block.new.into c.in-Ok.field-0 c.in-Ok.ensures.block,
      );
    }

pub returns-in-None-clause-taken : goal.returns-in-None-clause-taken
returns-in-None-clause-taken g c net w v tells m =
    taken_down g.K.Disk g.E.Entropy net w v c.args.post.now c.args.link c.args.up m c.next_number.result c.in-None.is
    (c.next_number.ensures net w v c.args.up m)

pub returns-then-number-eq1024-clause-taken : goal.returns-then-number-eq1024-clause-taken
returns-then-number-eq1024-clause-taken g c net w v tells m =
    taken_full g.K.Disk g.E.Entropy net w v c.args.post.now c.args.link c.args.up m c.next_number.result c.in-Some.number c.in-Some.is
    (c.next_number.ensures net w v c.args.up m) c.if-number-eq1024.true

pub returns-in-Err-End-clause-taken : goal.returns-in-Err-End-clause-taken
returns-in-Err-End-clause-taken g c net w v tells m =
    taken_ended g.K.Disk g.E.Entropy net w v c.args.post.now c.args.link c.args.up m c.next_number.result c.in-Some.number c.in-Some.is
    (c.next_number.ensures net w v c.args.up m) _ c.if-number-eq1024.false (g.Q.Device.told c.args.device.now) tells c.block.new.into c.in-Err-End.field-0 c.in-Err-End.field-0-is c.in-Err-End.ensures.block

pub returns-in-Err-Failed-clause-taken : goal.returns-in-Err-Failed-clause-taken
returns-in-Err-Failed-clause-taken g c net w v tells m =
    taken_failed g.K.Disk g.E.Entropy net w v c.args.post.now c.args.link c.args.up m c.next_number.result c.in-Some.number c.in-Some.is
    (c.next_number.ensures net w v c.args.up m) _ c.if-number-eq1024.false (g.Q.Device.told c.args.device.now) tells c.block.new.into c.in-Err-Failed.field-0 c.in-Err-Failed.field-0-is c.in-Err-Failed.ensures.block

pub returns-in-Ok-clause-taken : goal.returns-in-Ok-clause-taken
returns-in-Ok-clause-taken g c net w v tells m =
    c.put_block.ensures net w v
    (may_put g.K.Disk g.E.Entropy net w v c.args.post.now c.args.link c.args.up m c.next_number.result c.in-Some.number c.in-Some.is
    (c.next_number.ensures net w v c.args.up m) _ c.if-number-eq1024.false (g.Q.Device.told c.args.device.now) tells c.block.new.into c.in-Ok.field-0 c.in-Ok.ensures.block)

pub returns-in-Ok-clause-block : goal.returns-in-Ok-clause-block
returns-in-Ok-clause-block g c net w v number tells m took =
    let put = may_put g.K.Disk g.E.Entropy net w v c.args.post.now c.args.link c.args.up m c.next_number.result c.in-Some.number c.in-Some.is
    (c.next_number.ensures net w v c.args.up m) _ c.if-number-eq1024.false (g.Q.Device.told c.args.device.now) tells c.block.new.into c.in-Ok.field-0 c.in-Ok.ensures.block in
    put.bytes ∙ ap (block_at (net.device c.args.link)) put.next
