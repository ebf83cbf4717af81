use Rattle.net_model.specs.World.{first}
use Rattle.net_model.specs.Step.{run}
use Rattle.law_invariant.proofs.Steps.{first_keeps, run_keeps}
use Rattle.law_quiet.proofs.Unanswered.{run_unanswered, flying_owed}
use Rattle.law_quiet.proofs.delivery_laws.law_in_flight_is_owed.Goals as goal

pub returns : goal.returns
returns c = λ net actions v i e n network is_run at item.
    flying_owed net (run net first actions) (run_keeps net first actions network (first_keeps net) is_run) (run_unanswered net actions network is_run) v i e n at item
