use Rattle.law_parallel.proofs.LaneOneBlock.{one_block}
use Rattle.law_parallel.proofs.lane_work_laws.law_lane_works_are_one_block.Goals as goal

pub returns : goal.returns
returns c = λ net workers w jobs histories logs some network conserved quiet h. one_block net network workers some w conserved quiet jobs histories logs h
