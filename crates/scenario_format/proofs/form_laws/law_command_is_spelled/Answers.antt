use Rattle.scenario_format.proofs.CommandForms.{command_spelled}
use Rattle.scenario_format.proofs.form_laws.law_command_is_spelled.Goals as goal

pub returns : goal.returns
returns c = command_spelled
