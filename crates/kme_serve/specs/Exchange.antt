-- One exchange of a connection: what was read, the turn of the node's manager if the request asked for one, and the response
-- (ETSI GS QKD 014 V1.1.1, sections 5 and 6; RFC 9112, section 9.3).
use Rattle.std.specs.Prelude.{◌≡◌, ℕ, ◌+◌, Bool, true, ◌||◌, ◌==◌, List, [], Option, Some, None, Result, Ok, Err}
use Rattle.std.specs.Option.{option_map, option_and_then}
use Rattle.net_model.specs.declared.event.Event.{Event}
use Rattle.sae_entitlements.specs.Grants.{Grants}
use Rattle.http_front.specs.Response.{response_text}
use Rattle.http_front.specs.declared.request.HttpRequest.{HttpRequest}
use Rattle.http_front.specs.declared.response.HttpResponse.{HttpResponse}
use Rattle.http_front.specs.declared.refusal.FrontRefusal.{FrontRefusal}
use Rattle.qkd014_api.specs.Texts.{message_body}
use Rattle.qkd014_api.specs.Calls.{asked, fault_status, fault_message}
use Rattle.qkd014_api.specs.Fronts.{front_message}
use Rattle.qkd014_api.specs.Answers.{Answer, answer_of}
use Rattle.qkd014_api.specs.Ready.{MayBeLost}
use Rattle.qkd014_api.specs.declared.fault.CallFault.{CallFault}
use Rattle.kme_serve.specs.declared.turn.Turn.{Turn}

-- what was read: a request, or why there is none
abbrev pub Front : Type 0
Front = Result HttpRequest FrontRefusal

pub record Exchange : Type 0 where
  pub read : Front
  -- what the manager was asked and what it replied, if it was asked
  pub turn : Option Turn

-- ---- what reaches the manager

abbrev pub event_in : Result Event CallFault → Option Event
event_in (Ok event) = Some event
event_in (Err fault) = None

-- the event that a request to a node asks for, if nothing is wrong with the request
abbrev pub event_of : Grants → (node : ℕ) → Front → Option Event
event_of g node (Ok request) = event_in (asked g node request)
event_of g node (Err refusal) = None

-- The manager was asked this event and nothing else. If there is no event, it wasn't asked.
abbrev pub IsTurnOf : Option Event → Option Turn → Type 0
IsTurnOf event turn = option_map (λ (t : Turn). t.event) turn ≡ event

-- ---- what is answered

-- A fault is answered by its message, and an event by what the manager replied.
abbrev pub reply_answer : List (List ℕ) → Grants → Result Event CallFault → Option Turn → Option Answer
reply_answer nodes g (Err fault) turn = Some (fault_status fault, message_body (fault_message fault))
reply_answer nodes g (Ok event) turn = option_and_then (λ (t : Turn). answer_of nodes g event t.reply) turn

abbrev pub refusal_answer : List ℕ → Answer
refusal_answer text = (400, message_body text)

abbrev pub answer_at : List (List ℕ) → Grants → (node : ℕ) → Front → Option Turn → Option Answer
answer_at nodes g node (Ok request) turn = reply_answer nodes g (asked g node request) turn
answer_at nodes g node (Err refusal) turn = option_map refusal_answer (front_message refusal)

-- the answer to what was read, if there is one
abbrev pub answer_to : List (List ℕ) → Grants → (node : ℕ) → Exchange → Option Answer
answer_to nodes g node x = answer_at nodes g node x.read x.turn

abbrev pub response_with : (close : Bool) → Answer → HttpResponse
response_with close answer = record { status = answer.0; body = answer.1; close = close }

abbrev pub text_with : (close : Bool) → Option Answer → List ℕ
text_with close None = []
text_with close (Some answer) = response_text (response_with close answer)

-- the text of the response, which says whether the connection closes after it
abbrev pub text_of : List (List ℕ) → Grants → (node : ℕ) → (close : Bool) → Exchange → List ℕ
text_of nodes g node close x = text_with close (answer_to nodes g node x)

-- The manager was asked, and the response to its reply may be wanting memory: it hands out no keys, or more than were asked for, or
-- longer ones than can be. Other keys have their response, whose memory is taken before the manager is asked.
abbrev pub IsLost : Option Turn → Type 0
IsLost None = ⊥
IsLost (Some t) = MayBeLost t.event t.reply

-- ---- what closes the connection

-- A request may ask for it, and octets that are no request always close the connection.
abbrev pub asks_close : Front → Bool
asks_close (Ok request) = request.close
asks_close (Err refusal) = true

-- The connection closes after the response to an exchange that asks for it, and after the 1,000th. There are `before` responses
-- before this one.
abbrev pub closes : (before : ℕ) → Front → Bool
closes before read = asks_close read || before + 1 == 1000
