use Rattle.law_recovery.proofs.Restarting.{nothing_given}
use Rattle.law_recovery.proofs.journal_laws.law_empty_journal_gives_back.Goals as goal

pub returns : goal.returns
returns c = λ site me. nothing_given site me
