use Rattle.law_run.proofs.Resting.{first_rests}
use Rattle.law_lives.proofs.Lives.{earlier, conserved_at}
use Rattle.law_lives.proofs.life_laws.law_lives_go_on.Goals as goal

pub returns-clause-first : goal.returns-clause-first
returns-clause-first c = first_rests

pub returns-clause-earlier : goal.returns-clause-earlier
returns-clause-earlier c = λ l ls rest conserved are i j a b less at at2. earlier l ls rest conserved are i j a b less at at2

pub returns-clause-conserved : goal.returns-clause-conserved
returns-clause-conserved c = λ l ls rest conserved are i a at. conserved_at l ls rest conserved are i a at
