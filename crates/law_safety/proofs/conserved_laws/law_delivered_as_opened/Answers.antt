use Rattle.law_safety.proofs.Opening.{opened, too_few}
use Rattle.law_safety.proofs.conserved_laws.law_delivered_as_opened.Goals as goal

pub returns-clause-opens : goal.returns-clause-opens
returns-clause-opens c = λ net w l j a p network k at there is. opened net w network k l at j a p there is

pub returns-clause-few : goal.returns-clause-few
returns-clause-few c = λ net w l j a p network k at there is. too_few net w network k l at j a p there is
