use Rattle.kme_facts.proofs.Seen.{nothing_masked}
use Rattle.kme_facts.proofs.kept.Kept.new.Goals as goal

pub invariant_of-result : goal.invariant_of-result
invariant_of-result c = nothing_masked c.new.result c.new.ensures.known.1
