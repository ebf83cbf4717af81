-- The messages for what the HTTP front refuses.
use Rattle.std.specs.Prelude.{◌≡◌, ℕ, true, List, Option, Some, None, codes}
use Rattle.http_front.specs.declared.response.HttpResponse.{HttpResponse}
use Rattle.qkd014_api.specs.Texts.{error_response}
use Rattle.http_front.specs.declared.refusal.FrontRefusal.{FrontRefusal}
use Rattle.http_front.specs.declared.refusal.FrontRefusal.TheVariants.{NoRequest, BadHead, TooManyHeaders, HeadTooLong, Chunked, NoLength, BadLength, BodyTooLong, EndOfInput, ReadFault, Memory}

-- the message for a refusal; there is none if no request began, after a fault of the source, or if memory ran out
abbrev pub front_message : FrontRefusal → Option (List ℕ)
front_message NoRequest = None
front_message BadHead = Some (codes "bad request head")
front_message TooManyHeaders = Some (codes "bad request head")
front_message HeadTooLong = Some (codes "head too long")
front_message Chunked = Some (codes "transfer encoding refused")
front_message NoLength = Some (codes "length missing")
front_message BadLength = Some (codes "bad length")
front_message BodyTooLong = Some (codes "body too long")
front_message EndOfInput = Some (codes "input ended")
front_message ReadFault = None
front_message Memory = None

-- the response with a message, after which the connection closes
abbrev pub IsFrontResponse : Option (List ℕ) → HttpResponse → Type 0
IsFrontResponse None response = ⊥
IsFrontResponse (Some text) response = response ≡ error_response 400 text true
