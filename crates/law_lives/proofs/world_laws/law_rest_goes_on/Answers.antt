use Rattle.law_lives.proofs.Fronts.{front_is_next}
use Rattle.law_recovery.proofs.Runs.{run_held}
use Rattle.law_run.proofs.Resting.{rest_fits}
use Rattle.law_lives.proofs.NextNetworks.{goes_on, begins_next}
use Rattle.law_lives.proofs.world_laws.law_rest_goes_on.Goals as goal

pub returns-clause-network : goal.returns-clause-network
returns-clause-network c = λ earlier later counts w rest conserved next. goes_on earlier later counts w next rest conserved

pub returns-clause-front : goal.returns-clause-front
returns-clause-front c = λ earlier later w conserved begins. front_is_next earlier later w conserved begins

pub returns-clause-begin : goal.returns-clause-begin
returns-clause-begin c = λ net w rest. rest_fits net w rest

pub returns-clause-run : goal.returns-clause-run
returns-clause-run c = λ net w actions network conserved fits r.
    let h = run_held net network actions w (record { conserved = conserved; fits = fits }) r in (h.conserved, h.fits)

pub returns-clause-begins : goal.returns-clause-begins
returns-clause-begins c = λ earlier later counts w begins next. begins_next earlier later counts w begins next
