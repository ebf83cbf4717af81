use Rattle.law_recovery.proofs.Runs.{first_given, run_given, run_checkpoint}
use Rattle.law_recovery.proofs.recovery_laws.law_run_is_given_back.Goals as goal

pub returns-clause-first : goal.returns-clause-first
returns-clause-first c = first_given

pub returns-clause-journal : goal.returns-clause-journal
returns-clause-journal c = λ net w actions v before network conserved fits given r.
    run_given net network v actions w (record { conserved = conserved; fits = fits }) (before, given) r

pub returns-clause-checkpoint : goal.returns-clause-checkpoint
returns-clause-checkpoint c = λ net w actions v before network conserved fits given r.
    run_checkpoint net network w actions v (record { conserved = conserved; fits = fits }) r (before, given)
