use Rattle.law_quiet.proofs.Naming.{first_names, action_names, run_names}
use Rattle.law_quiet.proofs.rest_laws.law_acknowledgements_name_frames.Goals as goal

pub returns-clause-first : goal.returns-clause-first
returns-clause-first c = first_names

pub returns-clause-step : goal.returns-clause-step
returns-clause-step c = λ net w a network conserved naming may. action_names net w network conserved naming a may

pub returns-clause-run : goal.returns-clause-run
returns-clause-run c = run_names
