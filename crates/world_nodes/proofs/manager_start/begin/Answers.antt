use Rattle.world_nodes.proofs.Starts.{no_room, started_as, refused_as}
use Rattle.world_nodes.proofs.manager_start.begin.Goals as goal

pub returns-in-Err : goal.returns-in-Err
returns-in-Err g c =
    let d = g.K.Disk in
    let e = g.E.Entropy in
    λ net w m. no_room d e net w c.args.me c.args.site.now c.args.disk c.args.entropy m c.room.new.self c.in-Err.ensures.err

pub returns-in-Ok-recover : goal.returns-in-Ok-recover
returns-in-Ok-recover g c =
    let d = g.K.Disk in
    let e = g.E.Entropy in
    let r = c.room.ensures in
    let is = c.in-Ok-recover.ensures in
    λ net w m. started_as d e net w c.args.me c.args.site.now c.args.disk c.args.entropy m c.room.new.self r.time r.honest r.faults r.armings
    is.0 c.in-Ok-recover.manager is.1 is.2

pub returns-in-Err-recover : goal.returns-in-Err-recover
returns-in-Err-recover g c =
    let d = g.K.Disk in
    let e = g.E.Entropy in
    let r = c.room.ensures in
    let is = c.in-Err-recover.ensures in
    λ net w m. rw c.result_of.ensures (refused_as d e net w c.args.me c.args.site.now c.args.disk c.args.entropy m c.room.new.self r.time r.honest r.faults r.armings
    is.0 c.in-Err-recover.why c.in-Err-recover.disk c.in-Err-recover.entropy is.1 is.2)
