use Rattle.std.proofs.Common.{◌∙◌, sym}
use Rattle.net_model.specs.Fold.{view_restarted}
use Rattle.law_recovery.proofs.Restarting.{restarted_twice}
use Rattle.law_recovery.proofs.journal_laws.law_life_is_not_given_back.Goals as goal

pub returns-clause-lost : goal.returns-clause-lost
unfolding view_restarted
returns-clause-lost c = λ site me batches v life h. h

pub returns-clause-started : goal.returns-clause-started
returns-clause-started c = λ site me batches v h. h ∙ sym (restarted_twice v)
