use Rattle.law_parallel.proofs.Repeats.{may_go_again, again_enabled, again_goes}
use Rattle.law_parallel.proofs.emission_laws.law_repeat_goes_on.Goals as goal

pub returns-clause-may : goal.returns-clause-may
returns-clause-may c = may_go_again

pub returns-clause-enabled : goal.returns-clause-enabled
returns-clause-enabled c net w r es environment s = again_enabled net w r es s environment

pub returns-clause-goes : goal.returns-clause-goes
returns-clause-goes c net w r es environment network conserved s = again_goes net w r es s environment network conserved
