use Rattle.law_locality.proofs.TickRepeats.{may_go_again, again_enabled, again_goes}
use Rattle.law_locality.proofs.tick_laws.law_repeat_goes.Goals as goal

pub returns-clause-may : goal.returns-clause-may
returns-clause-may c = may_go_again

pub returns-clause-enabled : goal.returns-clause-enabled
returns-clause-enabled c net w v r es environment s = again_enabled net w v r es s environment

pub returns-clause-goes : goal.returns-clause-goes
returns-clause-goes c net w v r es environment network conserved s = again_goes net w v r es s environment network conserved
