use Rattle.world_nodes.proofs.Seen.{seen_by}
use Rattle.world_nodes.proofs.lane_reads.frame.Goals as goal

pub returns : goal.returns
returns g c = record {
  frame = λ net w r s. seen_by g.X.Wire net w c.args.side.now.lane c.args.side.now s c.wire.result.now c.wire.ensures c.args.number c.args.into.now c.frame.new.into c.frame.result c.frame.ensures.frame;
}
