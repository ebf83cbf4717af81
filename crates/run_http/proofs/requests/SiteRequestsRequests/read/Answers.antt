use Rattle.run_http.proofs.Saying.{said_call, said_refusal, call_of_fits}
use Rattle.run_http.proofs.requests.SiteRequestsRequests.read.Goals as goal

pub returns-in-Ok-clause-asked : goal.returns-in-Ok-clause-asked
returns-in-Ok-clause-asked c = λ http texts.
    said_call _ _ http c.args.node c.args.octets c.request_in.result c.in-Ok.request c.called.result texts c.request_in.ensures c.in-Ok.is c.called.ensures

pub returns-in-Ok-clause-fit : goal.returns-in-Ok-clause-fit
returns-in-Ok-clause-fit c = λ d serves below. call_of_fits d _ c.args.node c.in-Ok.request c.called.result serves.1.entitlements serves.0 below c.called.ensures

pub returns-in_ok-answer-in-Err-clause-asked : goal.returns-in_ok-answer-in-Err-clause-asked
returns-in_ok-answer-in-Err-clause-asked c = λ http texts.
    said_refusal _ _ http c.args.node c.args.octets c.request_in.result c.in-Err.refusal _ _ texts c.request_in.ensures c.in-Err.is c.in_ok-answer-in-Err.ensures
