use Rattle.law_recovery.proofs.Empty.{first_empty}
use Rattle.law_recovery.proofs.fold_laws.law_first_view_is_empty.Goals as goal

pub returns : goal.returns
returns c = first_empty
