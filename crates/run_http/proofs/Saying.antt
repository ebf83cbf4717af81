-- What the program finds in a request is what the HTTP texts say.
use Rattle.std.proofs.Common.{◌≡◌, ◌∙◌, ◌<◌, ℕ, List, length, Option, Some, None, Result, Ok, Err, sym, ap, subst}
use Rattle.std.specs.Prelude.{true, IfOk}
use Rattle.qkd_base.specs.declared.memory.Memory.{Memory}
use Rattle.declared_site.specs.declared.site.Site.{Site}
use Rattle.declared_site.specs.SiteOf.{IsDeclared}
use Rattle.sae_entitlements.specs.Grants.{Grants}
use Rattle.http_front.specs.declared.request.HttpRequest.{HttpRequest}
use Rattle.http_front.specs.declared.response.HttpResponse.{HttpResponse}
use Rattle.http_front.specs.declared.refusal.FrontRefusal.{FrontRefusal}
use Rattle.qkd014_api.specs.Calls.{asked}
use Rattle.qkd014_api.specs.Fronts.{front_message, IsFrontResponse}
use Rattle.run_model.specs.Turn.{HttpTexts, Request, AnswersAtOnce}
use Rattle.run_lines.specs.Answering.{asked_for, IsAskedOf}
use Rattle.run_lines.specs.declared.requests.Asked.{Asked}
use Rattle.run_http.specs.Reading.{MayBeRead}
use Rattle.run_http.specs.Speaking.{IsToldBy, call_of, IsTextsOf}
use Rattle.run_http.proofs.Calls.{said_fits}

-- For a request that was read, the program finds its event, or the answer to its fault.
pub said_call : (nodes : List (List ℕ)) (g : Grants) (http : HttpTexts) (v : ℕ) (octets : List ℕ) (r : Result HttpRequest FrontRefusal) (q : HttpRequest) (result : Result Asked Memory) →
    IsTextsOf nodes g http → MayBeRead octets r → r ≡ Ok q → IfOk result (λ said. asked_for said ≡ call_of (asked g v q)) → IfOk result (λ said. asked_for said ≡ http.request v octets)
said_call nodes g http v octets r q (Ok said) texts may is told =
    told ∙ sym (texts.request v octets (Ok q) (subst (MayBeRead octets) is may))
said_call nodes g http v octets r q (Err memory) texts may is told = tt

said_message : (o : Option (List ℕ)) (response : HttpResponse) (request : Request) → IsFrontResponse o response → IsToldBy o request → AnswersAtOnce response.status response.body ≡ request
said_message None response request is told = absurd is
said_message (Some text) response request is told = ap (λ (r : HttpResponse). AnswersAtOnce r.status r.body) is ∙ sym told

-- For octets that are no request, the program finds the answer that the HTTP texts say.
pub said_refusal : (nodes : List (List ℕ)) (g : Grants) (http : HttpTexts) (v : ℕ) (octets : List ℕ) (r : Result HttpRequest FrontRefusal) (e : FrontRefusal) (status : ℕ) (body : List ℕ) →
    IsTextsOf nodes g http → MayBeRead octets r → r ≡ Err e → IsFrontResponse (front_message e) (record { status = status; body = body; close = true }) →
    AnswersAtOnce status body ≡ http.request v octets
said_refusal nodes g http v octets r e status body texts may is told =
    said_message (front_message e) (record { status = status; body = body; close = true }) (http.request v octets) told (texts.request v octets (Err e) (subst (MayBeRead octets) is may))

-- What a request asks for fits the site.
pub call_of_fits : (d : Site) (g : Grants) (v : ℕ) (q : HttpRequest) (result : Result Asked Memory) → g ≡ d.entitlements → IsDeclared d → v < length d.nodes →
    IfOk result (λ said. asked_for said ≡ call_of (asked g v q)) → IfOk result (IsAskedOf d v)
call_of_fits d g v q (Ok said) same declared below told = said_fits d v q said declared below (told ∙ ap (λ (h : Grants). call_of (asked h v q)) same)
call_of_fits d g v q (Err memory) same declared below told = tt
