use Rattle.run_http.proofs.Readings.{readings_agree}
use Rattle.run_http.proofs.law_readings_agree.Goals as goal

pub returns : goal.returns
returns c = readings_agree
