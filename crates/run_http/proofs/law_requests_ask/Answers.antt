use Rattle.run_http.proofs.Asking.{requests_ask}
use Rattle.run_http.proofs.law_requests_ask.Goals as goal

pub returns : goal.returns
returns c = requests_ask
