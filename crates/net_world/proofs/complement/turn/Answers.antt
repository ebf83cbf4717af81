use Rattle.std.proofs.Common.{arith, ◌∙◌}
use Rattle.net_world.proofs.Octets.{turn_more, turned_whole}
use Rattle.net_world.proofs.complement.turn.Goals as goal

pub loop-octet-preserved : goal.loop-octet-preserved
loop-octet-preserved c = turn_more c.loop-octet.octets c.args.octets.now c.loop-octet.octet-index (omega arith) c.loop-octet.invariant

pub returns : goal.returns
returns c = c.loop-octet.invariant ∙ turned_whole c.args.octets.now c.loop-octet.octet-index (omega arith)
