use Rattle.net_model.specs.World.{first}
use Rattle.law_quiet.proofs.ChainedSteps.{action_chained, first_chained, run_chained, chain_of}
use Rattle.law_quiet.proofs.chain_laws.law_routes_go_over_links.Goals as goal

pub returns-clause-first : goal.returns-clause-first
returns-clause-first c = first_chained

pub returns-clause-step : goal.returns-clause-step
returns-clause-step c = λ net w a chained may. action_chained net w chained a may

pub returns-clause-run : goal.returns-clause-run
returns-clause-run c = λ net actions n f is_run there. chain_of net _ (run_chained net actions first (first_chained net) is_run) n f there
