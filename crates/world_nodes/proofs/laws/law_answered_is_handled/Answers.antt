use Rattle.std.proofs.Common.{refl}
use Rattle.world_nodes.proofs.Events.{acted}
use Rattle.world_nodes.proofs.laws.law_answered_is_handled.Goals as goal

pub returns : goal.returns
returns g c net w v event old new reply r goes fits a site stays later drawn h =
    acted g.K.Disk g.E.Entropy net w v r event old new reply
    old.standing refl a h site stays (later, drawn) goes fits
