use Rattle.law_recovery.proofs.Runs.{first_fits, step_fits, run_held}
use Rattle.law_recovery.proofs.recovery_laws.law_doubts_fit.Goals as goal

pub returns-clause-first : goal.returns-clause-first
returns-clause-first c = λ net. first_fits net

pub returns-clause-step : goal.returns-clause-step
returns-clause-step c = λ net w a network conserved fits may. step_fits net w a network conserved fits may

pub returns-clause-run : goal.returns-clause-run
returns-clause-run c = λ net w actions network conserved fits r. (run_held net network actions w (record { conserved = conserved; fits = fits }) r).fits
