use Rattle.law_parallel.proofs.Alone.{works_of_more}
use Rattle.law_parallel.proofs.work_laws.law_one_works_for_many.Goals as goal

pub returns : goal.returns
returns c = λ net workers w jobs works some one. works_of_more net workers some w jobs works one
