use Rattle.std.proofs.Common.{length, arith}
use Rattle.kme_base.proofs.Ends.{lane_bound}
use Rattle.kme_base.proofs.link_end.LinkEnd.received.Goals as goal

pub returns-clause-bound : goal.returns-clause-bound
returns-clause-bound c = omega (arith, c.received.ensures.number, lane_bound c.self.inside.lane.way (length c.self.inside.segments.blocks) c.self.invariant.blocks)
