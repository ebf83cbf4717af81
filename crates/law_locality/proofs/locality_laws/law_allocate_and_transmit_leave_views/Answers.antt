use Rattle.law_locality.proofs.ManagerSteps.{claim_unseen, transmit_unseen}
use Rattle.law_locality.proofs.locality_laws.law_allocate_and_transmit_leave_views.Goals as goal

pub returns-clause-allocate : goal.returns-clause-allocate
returns-clause-allocate c = λ net w t u may. claim_unseen net w u t may

pub returns-clause-transmit : goal.returns-clause-transmit
returns-clause-transmit c = λ net w l j environment u. transmit_unseen net w u l j environment
