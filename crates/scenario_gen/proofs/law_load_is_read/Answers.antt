use Rattle.scenario_gen.proofs.Whole.{load_is_read}
use Rattle.scenario_gen.proofs.law_load_is_read.Goals as goal

pub returns : goal.returns
returns c = load_is_read
