use Rattle.law_run.proofs.Whole.{read_is_runnable}
use Rattle.law_run.proofs.fit_laws.law_read_commands_fit.Goals as goal

pub returns : goal.returns
returns c = read_is_runnable
