use Rattle.law_recovery.proofs.Asked.{note_goes}
use Rattle.law_recovery.proofs.fold_laws.law_view_goes_on_noting.Goals as goal

pub returns : goal.returns
returns c = λ net w v placings e octets good conserved is. note_goes net w v good conserved placings e octets is
