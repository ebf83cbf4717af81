use Rattle.std.proofs.Common.{ap, ◌∙◌}
use Rattle.whole_audit.specs.Tracks.{leaves}
use Rattle.whole_audit.proofs.tracks.Tracks.leaves.Goals as goal

pub returns : goal.returns
returns c before tracked = c.leaves.ensures ∙ ap (leaves c.args.unused c.args.received) (c.at.ensures ∙ tracked c.args.lane.now)
