use Rattle.world_nodes.proofs.LaneStarts.{begins}
use Rattle.world_nodes.proofs.lane_lives.begin.Goals as goal

pub returns : goal.returns
returns g c net = begins g.X.Wire net c.args.lane c.args.wire (g.met.X.Wire.all_counted c.args.wire) c.requires.empty c.requires.tells c.new.result c.new.ensures
