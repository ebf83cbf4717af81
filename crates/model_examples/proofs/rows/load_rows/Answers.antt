use Rattle.model_examples.proofs.LoadRowsProofs.{site_of_load, load_of_one, later_round}
use Rattle.model_examples.proofs.rows.load_rows.Goals as goal

pub returns-clause-site_of_load : goal.returns-clause-site_of_load
returns-clause-site_of_load c = site_of_load

pub returns-clause-load_of_one : goal.returns-clause-load_of_one
returns-clause-load_of_one c = load_of_one

pub returns-clause-later_round : goal.returns-clause-later_round
returns-clause-later_round c = later_round
