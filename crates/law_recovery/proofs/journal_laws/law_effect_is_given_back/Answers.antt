use Rattle.law_recovery.proofs.Restarting.{effect_given, reply_given}
use Rattle.law_recovery.proofs.journal_laws.law_effect_is_given_back.Goals as goal

pub returns-clause-appended : goal.returns-clause-appended
returns-clause-appended c = λ site me batches v e h. effect_given site me batches v e h

pub returns-clause-nothing : goal.returns-clause-nothing
returns-clause-nothing c = λ site me batches v e none h. reply_given site me batches v e none h
