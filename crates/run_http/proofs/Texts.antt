-- Texts of HTTP as the readings of all octets and the answers to all replies make them.
use Rattle.std.proofs.Common.{◌≡◌, ℕ, List, [], Option, Some, None, Result, Ok, Err, refl}
use Rattle.sae_entitlements.specs.Grants.{Grants}
use Rattle.http_front.specs.Reading.{IsDecided}
use Rattle.http_front.specs.declared.refusal.FrontRefusal.{FrontRefusal}
use Rattle.http_front.specs.declared.refusal.FrontRefusal.TheVariants as refusals
use Rattle.http_front.specs.declared.request.HttpRequest.{HttpRequest}
use Rattle.qkd014_api.specs.Calls.{asked}
use Rattle.qkd014_api.specs.Fronts.{front_message}
use Rattle.qkd014_api.specs.Answers.{Answer, answer_of}
use Rattle.run_model.specs.Turn.{Request, AnswersAtOnce, HttpTexts}
use Rattle.run_http.specs.Reading.{MayBeRead}
use Rattle.run_http.specs.Speaking.{message, call_of, IsToldBy, IsAskedBy, IsTextsOf}
use Rattle.run_http.proofs.Readings.{readings_agree}
use Rattle.run_http.proofs.Existing.{readable}

-- Where nothing is asked for, as of no octets, any answer will do.
told : Option (List ℕ) → Request
told None = AnswersAtOnce 400 []
told (Some text) = message 400 text

request_for : Grants → ℕ → Result HttpRequest FrontRefusal → Request
request_for g v (Ok q) = call_of (asked g v q)
request_for g v (Err e) = told (front_message e)

given : Option Answer → Answer
given None = (500, [])
given (Some answer) = answer

is_told : (o : Option (List ℕ)) → IsToldBy o (told o)
unfolding told
is_told None = tt
is_told (Some text) = refl

is_asked : (g : Grants) (v : ℕ) (r : Result HttpRequest FrontRefusal) → IsAskedBy g v r (request_for g v r)
unfolding request_for
is_asked g v (Ok q) = refl
is_asked g v (Err e) = is_told (front_message e)

is_given : (o : Option Answer) (answer : Answer) → o ≡ Some answer → given o ≡ answer
unfolding given
is_given None answer e = absurd cc
is_given (Some other) answer e = cc

-- A reading asks for what the decided one asks for.
agrees : (g : Grants) (v : ℕ) (octets : List ℕ) (r : Result HttpRequest FrontRefusal) → MayBeRead octets r → IsDecided r → IsAskedBy g v r (request_for g v (readable octets).0)
agrees g v octets r may decided =
    let read = readable octets in
    readings_agree g v octets read.0 r (request_for g v read.0) read.1 may read.2 decided (is_asked g v read.0)

asks : (g : Grants) (v : ℕ) (octets : List ℕ) (r : Result HttpRequest FrontRefusal) → MayBeRead octets r → IsAskedBy g v r (request_for g v (readable octets).0)
asks g v octets (Ok q) may = agrees g v octets (Ok q) may tt
asks g v octets (Err refusals.NoRequest) may = tt
asks g v octets (Err refusals.BadHead) may = agrees g v octets (Err refusals.BadHead) may tt
asks g v octets (Err refusals.TooManyHeaders) may = agrees g v octets (Err refusals.TooManyHeaders) may tt
asks g v octets (Err refusals.HeadTooLong) may = agrees g v octets (Err refusals.HeadTooLong) may tt
asks g v octets (Err refusals.Chunked) may = agrees g v octets (Err refusals.Chunked) may tt
asks g v octets (Err refusals.NoLength) may = agrees g v octets (Err refusals.NoLength) may tt
asks g v octets (Err refusals.BadLength) may = agrees g v octets (Err refusals.BadLength) may tt
asks g v octets (Err refusals.BodyTooLong) may = agrees g v octets (Err refusals.BodyTooLong) may tt
asks g v octets (Err refusals.EndOfInput) may = agrees g v octets (Err refusals.EndOfInput) may tt
asks g v octets (Err refusals.ReadFault) may = tt
asks g v octets (Err refusals.Memory) may = tt

pub texts_exist : (nodes : List (List ℕ)) (g : Grants) → (http : HttpTexts) × IsTextsOf nodes g http
texts_exist nodes g = (
  record {
    request = λ v octets. request_for g v (readable octets).0;
    response = λ event reply. given (answer_of nodes g event reply);
  },
  record {
    request = asks g;
    response = λ event reply answer e. is_given (answer_of nodes g event reply) answer e;
  },
)
