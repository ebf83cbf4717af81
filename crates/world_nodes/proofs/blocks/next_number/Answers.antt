use Rattle.std.proofs.Common.{sym, ◌∙◌}
use Rattle.world_nodes.proofs.Blocked.{next_up, next_down, next_off}
use Rattle.world_nodes.proofs.blocks.next_number.Goals as goal

pub returns-then-is_up : goal.returns-then-is_up
returns-then-is_up g c net w v up m =
    next_up g.K.Disk g.E.Entropy net w v c.args.post.now c.args.link up m c.in-On.manager c.in-On.is (sym c.is_up.ensures ∙ c.if-is_up.true) c.blocks-then-is_up.result
    c.blocks-then-is_up.ensures

pub returns-else-is_up : goal.returns-else-is_up
returns-else-is_up g c net w v up m =
    next_down g.K.Disk g.E.Entropy net w v c.args.post.now c.args.link up m c.in-On.manager c.in-On.is (sym c.is_up.ensures ∙ c.if-is_up.false)

pub returns-in-Off : goal.returns-in-Off
returns-in-Off g c net w v up m =
    next_off g.K.Disk g.E.Entropy net w v c.args.post.now c.args.link up m c.in-Off.field-0 c.in-Off.field-1 c.in-Off.is
