use Rattle.kme_journal.proofs.Formed.{recovered_formed}
use Rattle.kme_journal.proofs.laws.law_read_back_is_formed.Goals as goal

pub returns : goal.returns
returns c = recovered_formed
