use Rattle.law_quiet.proofs.NotedSteps.{first_noted, action_noted, run_noted}
use Rattle.law_quiet.proofs.noted_laws.law_targets_note.Goals as goal

pub returns-clause-first : goal.returns-clause-first
returns-clause-first c = first_noted

pub returns-clause-step : goal.returns-clause-step
returns-clause-step c = λ net w a network conserved noted may. action_noted net w conserved noted network a may

pub returns-clause-run : goal.returns-clause-run
returns-clause-run c = run_noted
