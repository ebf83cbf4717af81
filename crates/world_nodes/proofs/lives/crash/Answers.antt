use Rattle.std.proofs.Common.{sym, ◌∙◌}
use Rattle.world_nodes.proofs.Crashes.{crashed_up, crashed_down, crashed_off}
use Rattle.world_nodes.proofs.lives.crash.Goals as goal

pub returns-then-is_up : goal.returns-then-is_up
returns-then-is_up g c net w v m =
    crashed_up g.K.Disk g.E.Entropy net w v c.args.post m c.in-On.manager c.in-On.is (sym c.is_up.ensures ∙ c.if-is_up.true)
    c.crash-disk.result.0 c.crash-disk.result.1 c.crash-disk.ensures.disk c.crash-disk.ensures.entropy c.crash-disk.ensures.kept

pub returns-else-is_up : goal.returns-else-is_up
returns-else-is_up g c net w v m =
    crashed_down g.K.Disk g.E.Entropy net w v c.args.post m c.in-On.manager c.in-On.is (sym c.is_up.ensures ∙ c.if-is_up.false)

pub returns-in-Off : goal.returns-in-Off
returns-in-Off g c net w v m = crashed_off g.K.Disk g.E.Entropy net w v c.args.post m c.in-Off.disk c.in-Off.entropy c.in-Off.is
