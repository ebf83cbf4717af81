use Rattle.law_quiet.proofs.Standing.{still}
use Rattle.law_quiet.proofs.still_laws.law_still.Goals as goal

pub returns : goal.returns
returns c = λ net w l conserved puts awaits old. still net w l puts conserved awaits old
