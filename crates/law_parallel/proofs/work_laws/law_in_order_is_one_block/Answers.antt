use Rattle.law_parallel.proofs.OneBlock.{one_block}
use Rattle.law_parallel.proofs.work_laws.law_in_order_is_one_block.Goals as goal

pub returns : goal.returns
returns c = λ net workers w jobs histories ps some network conserved quiet each h. one_block net network workers some w conserved quiet jobs histories ps h
