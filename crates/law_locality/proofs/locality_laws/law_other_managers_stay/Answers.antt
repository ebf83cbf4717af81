use Rattle.law_locality.proofs.ManagerSteps.{step_unseen}
use Rattle.law_locality.proofs.locality_laws.law_other_managers_stay.Goals as goal

pub returns : goal.returns
returns c = λ net w a u network conserved may h. step_unseen net w network conserved u a may h
