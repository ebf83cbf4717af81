use Rattle.std.proofs.Common.{ap, Err}
use Rattle.qkd014_api.specs.declared.fault.CallFault.{CallFault}
use Rattle.qkd014_api.proofs.Asking.{called-refused}
use Rattle.qkd014_api.proofs.api.Api.call_of.Goals as goal

pub returns-in-Err : goal.returns-in-Err
returns-in-Err c =
    called-refused _ c.in-Err.fault _ _ c.in-Err.ensures.asked (λ is. c.in-Err.ensures.memory (ap (λ (e : CallFault). Err e) is)) c.refusal.ensures.answer c.refusal.ensures.memory
