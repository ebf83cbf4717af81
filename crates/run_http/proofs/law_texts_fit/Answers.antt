use Rattle.run_http.proofs.Turns.{turn_fits}
use Rattle.run_http.proofs.law_texts_fit.Goals as goal

pub returns : goal.returns
returns c = turn_fits
