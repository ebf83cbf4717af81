use Rattle.std.proofs.Common.{ap, ◌∙◌}
use Rattle.whole_audit.specs.Tracks.{has_used}
use Rattle.whole_audit.proofs.tracks.Tracks.has_used.Goals as goal

pub returns : goal.returns
returns c before tracked = c.has_used.ensures ∙ ap (has_used c.args.used c.args.received) (c.at.ensures ∙ tracked c.args.lane.now)
