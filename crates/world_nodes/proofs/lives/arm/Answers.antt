use Rattle.std.proofs.Common.{subst, ◌<◌, ◌^◌}
use Rattle.kme_store.specs.declared.post.Post.{Post}
use Rattle.world_nodes.specs.Handled.{OnDisk}
use Rattle.world_nodes.proofs.Armed.{armed_on, armed_off, counted_on, counted_off}
use Rattle.world_nodes.proofs.lives.arm.Goals as goal

pub arm-requires : goal.arm-requires
arm-requires g c = subst (λ (p : Post g.row.K.Denot g.row.E.Denot). OnDisk (λ disk. (g.K.Disk.armings disk).count < 2 ^ 32) p) c.in-On.is c.requires.count

pub returns-in-On-clause-armed : goal.returns-in-On-clause-armed
returns-in-On-clause-armed g c =
    counted_on g.K.Disk g.E.Entropy c.args.arm c.args.post.now c.in-On.manager c.arm.new.self c.in-On.is
    c.arm.ensures.same c.arm.ensures.armed

pub returns-in-Off-clause-armed : goal.returns-in-Off-clause-armed
returns-in-Off-clause-armed g c =
    counted_off g.K.Disk g.E.Entropy c.args.arm c.args.post.now c.in-Off.disk c.arm-in-Off.new.self
    c.in-Off.field-1 c.in-Off.is
    (let e = c.arm-in-Off.ensures in record { armed = e.armings; same = e.content; time = e.time; failed = e.faults; honest = e.honest })

pub returns-in-On-clause-action : goal.returns-in-On-clause-action
returns-in-On-clause-action g c net w v fault m =
    armed_on g.K.Disk c.args.arm net w v g.E.Entropy fault c.args.post.now c.in-On.manager c.arm.new.self c.in-On.is
    c.arm.ensures.same c.arm.ensures.armed m

pub returns-in-Off-clause-action : goal.returns-in-Off-clause-action
returns-in-Off-clause-action g c net w v fault m =
    armed_off g.K.Disk c.args.arm net w v g.E.Entropy fault c.args.post.now c.in-Off.disk c.arm-in-Off.new.self
    c.in-Off.field-1 c.in-Off.is
    (let e = c.arm-in-Off.ensures in record { armed = e.armings; same = e.content; time = e.time; failed = e.faults; honest = e.honest }) m
