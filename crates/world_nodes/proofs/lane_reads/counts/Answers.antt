use Rattle.std.proofs.Common.{◌∙◌}
use Rattle.world_nodes.proofs.Seen.{counts_are}
use Rattle.world_nodes.proofs.lane_reads.counts.Goals as goal

pub returns : goal.returns
returns g c net w r s = c.counts.ensures ∙ counts_are g.X.Wire net w c.args.side.now.lane c.args.side.now s
