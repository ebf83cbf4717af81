use Rattle.law_lives.proofs.Lastings.{rest_lasts, rest_leases, frames_below}
use Rattle.law_lives.proofs.world_laws.law_rest_lasts.Goals as goal

pub returns-clause-lasts : goal.returns-clause-lasts
returns-clause-lasts c = λ net w made journals. rest_lasts net w made journals

pub returns-clause-below : goal.returns-clause-below
returns-clause-below c = λ net w made journals conserved fits. frames_below net w conserved fits made journals

pub returns-clause-leases : goal.returns-clause-leases
returns-clause-leases c = λ net w made journals conserved fits. rest_leases net w conserved fits made journals
