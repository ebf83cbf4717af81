use Rattle.law_quiet.proofs.AwaitedRuns.{first_awaited, action_awaited, quiet_awaits, run_awaited}
use Rattle.law_quiet.proofs.awaited_laws.law_quiet_awaits_nothing.Goals as goal

pub returns-clause-first : goal.returns-clause-first
returns-clause-first c = first_awaited

pub returns-clause-step : goal.returns-clause-step
returns-clause-step c = λ net w a network conserved awaited may. action_awaited net w network conserved awaited a may

pub returns-clause-quiet : goal.returns-clause-quiet
returns-clause-quiet c = quiet_awaits

pub returns-clause-run : goal.returns-clause-run
returns-clause-run c = λ net actions network is_run quiet. quiet_awaits net _ (run_awaited net actions network is_run) quiet
