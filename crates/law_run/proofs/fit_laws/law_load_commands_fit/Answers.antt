use Rattle.run_model.specs.Load.{load_scenario}
use Rattle.scenario_gen.specs.LoadText.{load_text}
use Rattle.law_run.proofs.fit_laws.law_load_commands_fit.Goals as goal

pub returns : goal.returns
returns c = λ rounds some few. c.law_read_commands_fit.ensures (load_text rounds) (load_scenario rounds) (c.law_load_is_read.ensures rounds some few)
