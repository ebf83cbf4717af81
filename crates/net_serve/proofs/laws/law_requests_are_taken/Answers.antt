use Rattle.net_serve.proofs.Requests.{request_to}
use Rattle.net_serve.proofs.laws.law_requests_are_taken.Goals as goal

pub returns : goal.returns
returns c = request_to
