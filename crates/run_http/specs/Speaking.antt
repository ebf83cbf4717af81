-- The HTTP texts of a site: what a request to a node asks for, and how the reply is answered (ETSI GS QKD 014 V1.1.1).
use Rattle.std.specs.Prelude.{◌≡◌, ℕ, List, Option, Some, None, Result, Ok, Err}
use Rattle.net_model.specs.declared.event.Event.{Event}
use Rattle.net_model.specs.declared.reply.Reply.{Reply}
use Rattle.sae_entitlements.specs.Grants.{Grants}
use Rattle.http_front.specs.declared.refusal.FrontRefusal.{FrontRefusal}
use Rattle.http_front.specs.declared.request.HttpRequest.{HttpRequest}
use Rattle.qkd014_api.specs.Texts.{message_body}
use Rattle.qkd014_api.specs.Calls.{asked, fault_status, fault_message}
use Rattle.qkd014_api.specs.Fronts.{front_message}
use Rattle.qkd014_api.specs.Answers.{Answer, answer_of}
use Rattle.qkd014_api.specs.declared.fault.CallFault.{CallFault}
use Rattle.run_model.specs.Turn.{Request, AnswersAtOnce, Calls, HttpTexts}
use Rattle.run_http.specs.Reading.{MayBeRead}

abbrev pub message : ℕ → List ℕ → Request
message status text = AnswersAtOnce status (message_body text)

-- the event that is asked for, or the answer to the fault
abbrev pub call_of : Result Event CallFault → Request
call_of (Ok event) = Calls event
call_of (Err fault) = message (fault_status fault) (fault_message fault)

-- If octets that are no request have a message, this is the answer with that message.
abbrev pub IsToldBy : Option (List ℕ) → Request → Type 0
IsToldBy None request = Unit {0}
IsToldBy (Some text) request = request ≡ message 400 text

-- A request that was read in this way asks for this.
abbrev pub IsAskedBy : Grants → (node : ℕ) → Result HttpRequest FrontRefusal → Request → Type 0
IsAskedBy g v (Ok q) request = request ≡ call_of (asked g v q)
IsAskedBy g v (Err e) request = IsToldBy (front_message e) request

pub record IsTextsOf (nodes : List (List ℕ)) (g : Grants) (http : HttpTexts) : Type 0 where
  pub request : (v : ℕ) (octets : List ℕ) (r : Result HttpRequest FrontRefusal) → MayBeRead octets r → IsAskedBy g v r (http.request v octets)
  pub response : (event : Event) (reply : Reply) (answer : Answer) → answer_of nodes g event reply ≡ Some answer → http.response event reply ≡ answer
