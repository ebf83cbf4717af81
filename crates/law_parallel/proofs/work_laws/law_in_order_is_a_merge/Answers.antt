use Rattle.law_parallel.proofs.Merging.{in_order_is_a_merge}
use Rattle.law_parallel.proofs.work_laws.law_in_order_is_a_merge.Goals as goal

pub returns : goal.returns
returns c = in_order_is_a_merge
