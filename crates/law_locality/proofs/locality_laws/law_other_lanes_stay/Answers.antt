use Rattle.law_locality.proofs.LaneSteps.{step_lane}
use Rattle.law_locality.proofs.LaneParts.{step_part}
use Rattle.law_locality.proofs.locality_laws.law_other_lanes_stay.Goals as goal

pub returns-clause-lane : goal.returns-clause-lane
returns-clause-lane c = λ net w a l network conserved may h. step_lane net w l network conserved a may h

pub returns-clause-part : goal.returns-clause-part
returns-clause-part c = λ net w a l p network conserved may h. step_part net w l network conserved p a may h
