-- Each answer has a status with a reason phrase.
use Rattle.std.proofs.Common.{◌≡◌, ℕ, List, Option, Some, None, Bool, Result, Err, refl, sym, ap, subst, ◌∙◌}
use Rattle.std.specs.Prelude.{IsTrue}
use Rattle.net_model.specs.declared.event.Event.{Event}
use Rattle.net_model.specs.declared.event.Event.TheVariants as events
use Rattle.net_model.specs.declared.reply.Reply.{Reply}
use Rattle.net_model.specs.declared.reply.Reply.TheVariants as replies
use Rattle.sae_entitlements.specs.Grants.{Grants}
use Rattle.http_front.specs.Response.{has_reason}
use Rattle.http_front.specs.declared.response.HttpResponse.{HttpResponse}
use Rattle.qkd014_api.specs.Calls.{fault_status, IsCalled}
use Rattle.qkd014_api.specs.Answers.{Answer, End, answer_of, refused_answer, status_answer, pool_answer, end_of, IsResponse}
use Rattle.qkd014_api.specs.declared.fault.CallFault.{CallFault}
use Rattle.qkd014_api.specs.declared.fault.CallFault.TheVariants as faults
use Rattle.qkd014_api.specs.declared.fault.CallRefusal.{CallRefusal}
use Rattle.qkd014_api.specs.declared.fault.CallRefusal.TheVariants as refusals
use Rattle.kme_serve.specs.Steps.{IsTextOf, HasReason as RefusalHasReason}
use Rattle.http_front.specs.Response.{response_text}

abbrev pub HasReason : Option Answer → Type 0
HasReason None = Unit {0}
HasReason (Some answer) = IsTrue (has_reason answer.0)

refused_has : (reply : Reply) → HasReason (refused_answer reply)
refused_has (replies.Unknown place) = refl
refused_has (replies.Repeated place) = refl
refused_has (replies.AlreadyHanded place) = refl
refused_has replies.NotAllowed = refl
refused_has (replies.Few count) = refl
refused_has replies.Down = refl
refused_has replies.Stopped = refl
refused_has (replies.JournalFull length need) = refl
refused_has replies.Memory = refl
refused_has _ = tt

pool_has : (count : ℕ) (m s : Option End) → HasReason (pool_answer count m s)
pool_has count (Some m) (Some s) = refl
pool_has count (Some m) None = tt
pool_has count None s = tt

status_has : (nodes : List (List ℕ)) (g : Grants) (event : Event) (count : ℕ) → HasReason (status_answer nodes g event count)
status_has nodes g (events.Status master slave) count = pool_has count (end_of nodes g master) (end_of nodes g slave)
status_has nodes g _ count = tt

pub answer_has : (nodes : List (List ℕ)) (g : Grants) (event : Event) (reply : Reply) → HasReason (answer_of nodes g event reply)
answer_has nodes g event (replies.Handed keys) = refl
answer_has nodes g event (replies.ReadyCount count) = status_has nodes g event count
answer_has nodes g event reply = refused_has reply

pub fault_has : (fault : CallFault) → IsTrue (has_reason (fault_status fault))
fault_has faults.MissingCaller = refl
fault_has faults.NotAllowed = refl
fault_has _ = refl

-- the response to an answer, and its text
pub response_has : (answer : Option Answer) (close : Bool) (response : HttpResponse) → IsResponse answer close response → HasReason answer → IsTrue (has_reason response.status)
response_has None close response is has = absurd is
response_has (Some a) close response is has = subst (λ (r : HttpResponse). IsTrue (has_reason r.status)) (sym is) has

pub its_text : (answer : Option Answer) (close : Bool) (response : HttpResponse) (text : List ℕ) → IsResponse answer close response → text ≡ response_text response → IsTextOf answer close text
its_text None close response text is told = absurd is
its_text (Some a) close response text is told = told ∙ ap response_text is

pub refusal_has : (means : Result Event CallFault) (close : Bool) (refusal : CallRefusal) → IsCalled means close (Err refusal) → RefusalHasReason refusal
refusal_has means close refusals.Memory called = tt
refusal_has means close (refusals.Answer response) called = subst (λ (r : HttpResponse). IsTrue (has_reason r.status)) (sym called.2) (fault_has called.0)
