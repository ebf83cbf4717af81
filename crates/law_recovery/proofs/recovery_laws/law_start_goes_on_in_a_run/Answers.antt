use Rattle.law_recovery.proofs.Runs.{run_starts, run_resumes}
use Rattle.law_recovery.proofs.recovery_laws.law_start_goes_on_in_a_run.Goals as goal

pub returns-clause-recovers : goal.returns-clause-recovers
returns-clause-recovers c = λ net w actions v committed network conserved fits r down enabled.
    run_starts net network w actions v (record { conserved = conserved; fits = fits }) r committed down enabled

pub returns-clause-resumes : goal.returns-clause-resumes
returns-clause-resumes c = λ net w actions v committed network conserved fits r down enabled.
    run_resumes net network w actions v (record { conserved = conserved; fits = fits }) r committed down enabled
