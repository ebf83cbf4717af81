use Rattle.end_store.proofs.Pairs.{nothing_marked}
use Rattle.end_store.proofs.marks.Marks.new.Goals as goal

pub invariant_of-result : goal.invariant_of-result
invariant_of-result c = nothing_marked c.new.result.items c.new-2.result c.new.ensures.items c.new-2.ensures
