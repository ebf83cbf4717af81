use Rattle.run_http.proofs.Calls.{call_fits}
use Rattle.run_http.proofs.law_calls_fit.Goals as goal

pub returns : goal.returns
returns c = call_fits
