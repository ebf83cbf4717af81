use Rattle.run_lines.specs.Commands.{any_texts}
use Rattle.run_lines.proofs.Going.{ready_after}
use Rattle.run_lines.proofs.commands.command.Goals as goal

pub returns-in_default-clause-ready : goal.returns-in_default-clause-ready
returns-in_default-clause-ready g c = ready_after _ _ _ _ _ _ _ _ _ _ c.plain_command.result (c.plain_command.ensures.runs any_texts) c.requires.ready

pub returns-in_default-clause-runs : goal.returns-in_default-clause-runs
returns-in_default-clause-runs g c = λ http speaks. c.plain_command.ensures.runs http
