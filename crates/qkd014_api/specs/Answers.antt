-- The answers to a manager's replies (ETSI GS QKD 014 V1.1.1, sections 5 and 6).
use Rattle.std.specs.Prelude.{◌≡◌, ℕ, Bool, List, ◌++◌, slice_get, Option, Some, None, codes}
use Rattle.std.specs.Option.{option_and_then, option_map}
use Rattle.std.specs.Fmt.{decimal}
use Rattle.net_model.specs.declared.event.Event.{Event}
use Rattle.net_model.specs.declared.event.Event.TheVariants as events
use Rattle.net_model.specs.declared.reply.Reply.{Reply}
use Rattle.net_model.specs.declared.reply.Reply.TheVariants as replies
use Rattle.sae_entitlements.specs.Grants.{Grants, id_of, home_of}
use Rattle.http_front.specs.declared.response.HttpResponse.{HttpResponse}
use Rattle.qkd014_api.specs.Texts.{message_body, keys_body, status_body}

-- an HTTP status and a body
abbrev pub Answer : Type 0
Answer = ℕ × List ℕ

abbrev pub message : ℕ → List ℕ → Option Answer
message status text = Some (status, message_body text)

-- a message about the key at a place of the request
abbrev pub at_place : ℕ → List ℕ → Option Answer
at_place place text = message 400 (codes "key " ++ decimal place ++ text)

-- the answer to a reply that is no success
abbrev pub refused_answer : Reply → Option Answer
refused_answer (replies.Unknown place) = at_place place (codes " is unknown")
refused_answer (replies.Repeated place) = at_place place (codes " is repeated")
refused_answer (replies.AlreadyHanded place) = at_place place (codes " was handed already")
refused_answer replies.NotAllowed = message 401 (codes "not allowed")
refused_answer (replies.Few count) = message 503 (codes "" ++ decimal count ++ codes " keys ready")
refused_answer replies.Down = message 503 (codes "manager down")
refused_answer replies.Stopped = message 503 (codes "manager stopped")
refused_answer (replies.JournalFull length need) = message 503 (codes "journal full")
refused_answer replies.Memory = message 500 (codes "out of memory")
refused_answer _ = None

abbrev pub End : Type 0
End = List ℕ × List ℕ

-- an application's ID, and the name of its node
abbrev pub end_of : List (List ℕ) → Grants → ℕ → Option End
end_of nodes g sae =
    option_and_then (λ (id : List ℕ). option_and_then (λ (home : ℕ). option_map (λ (name : List ℕ). (id, name)) (slice_get nodes home)) (home_of g sae)) (id_of g sae)

abbrev pub pool_answer : ℕ → Option End → Option End → Option Answer
pool_answer count (Some m) (Some s) = Some (200, status_body m.0 s.0 m.1 s.1 count)
pool_answer count _ _ = None

-- the answer to a count of ready keys
abbrev pub status_answer : List (List ℕ) → Grants → Event → ℕ → Option Answer
status_answer nodes g (events.Status master slave) count = pool_answer count (end_of nodes g master) (end_of nodes g slave)
status_answer nodes g _ count = None

-- the answer to a reply to an event, if there is one
abbrev pub answer_of : List (List ℕ) → Grants → Event → Reply → Option Answer
answer_of nodes g event (replies.Handed keys) = Some (200, keys_body keys)
answer_of nodes g event (replies.ReadyCount count) = status_answer nodes g event count
answer_of nodes g event reply = refused_answer reply

abbrev pub IsResponse : Option Answer → (close : Bool) → HttpResponse → Type 0
IsResponse None close response = ⊥
IsResponse (Some answer) close response = response ≡ record { status = answer.0; body = answer.1; close = close }
