use Rattle.scenario_format.proofs.Commands.{reads_back}
use Rattle.scenario_format.proofs.spelling_laws.law_command_is_read.Goals as goal

pub returns : goal.returns
returns c = reads_back
