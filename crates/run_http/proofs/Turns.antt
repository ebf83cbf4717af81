-- Whatever the octets of a request are, what it asks of a manager fits the site.
use Rattle.std.proofs.Common.{◌≡◌, ◌<◌, ℕ, Bool, true, false, List, [], length, Result, Ok, Err, refl, sym, ◌∙◌, subst}
use Rattle.std.proofs.lemmas.Bool.{false≢true}
use Rattle.net_model.specs.declared.event.Event.{Event}
use Rattle.net_model.specs.Action.{Ok as Fine, Ask}
use Rattle.declared_site.specs.declared.site.Site.{Site}
use Rattle.declared_site.specs.SiteOf.{site_of, IsDeclared}
use Rattle.http_front.specs.Reading.{IsDecided}
use Rattle.http_front.specs.declared.refusal.FrontRefusal.{FrontRefusal}
use Rattle.http_front.specs.declared.refusal.FrontRefusal.TheVariants as refusals
use Rattle.http_front.specs.declared.request.HttpRequest.{HttpRequest}
use Rattle.run_model.specs.Turn.{HttpTexts, Request, AnswersAtOnce, Calls, http_turn}
use Rattle.run_ops.specs.Fitting.{is_fit}
use Rattle.run_ops.specs.Runnable.{IsTurnFor}
use Rattle.run_lines.specs.declared.requests.Asked.TheVariants as sayings
use Rattle.run_http.specs.Reading.{MayBeRead}
use Rattle.run_http.specs.Speaking.{IsAskedBy, IsTextsOf}
use Rattle.run_http.proofs.Calls.{said_fits}
use Rattle.run_http.proofs.Existing.{readable}

-- No reading of the octets asks for an event that doesn't fit the site.
none_unfit : (d : Site) (v : ℕ) (octets : List ℕ) (event : Event) (r : Result HttpRequest FrontRefusal) → IsDeclared d → v < length d.nodes → ¬ (octets ≡ []) → MayBeRead octets r → IsDecided r →
    IsAskedBy d.entitlements v r (Calls event) → is_fit (site_of d) (Ask v event Fine) ≡ false → ⊥
none_unfit d v octets event (Ok q) declared below some may decided asked unfit = false≢true (sym unfit ∙ (said_fits d v q (sayings.Event event) declared below asked).0)
none_unfit d v octets event (Err refusals.NoRequest) declared below some may decided asked unfit = some may.may
none_unfit d v octets event (Err refusals.BadHead) declared below some may decided asked unfit = absurd cc
none_unfit d v octets event (Err refusals.TooManyHeaders) declared below some may decided asked unfit = absurd cc
none_unfit d v octets event (Err refusals.HeadTooLong) declared below some may decided asked unfit = absurd cc
none_unfit d v octets event (Err refusals.Chunked) declared below some may decided asked unfit = absurd cc
none_unfit d v octets event (Err refusals.NoLength) declared below some may decided asked unfit = absurd cc
none_unfit d v octets event (Err refusals.BadLength) declared below some may decided asked unfit = absurd cc
none_unfit d v octets event (Err refusals.BodyTooLong) declared below some may decided asked unfit = absurd cc
none_unfit d v octets event (Err refusals.EndOfInput) declared below some may decided asked unfit = absurd cc
none_unfit d v octets event (Err refusals.ReadFault) declared below some may decided asked unfit = absurd decided
none_unfit d v octets event (Err refusals.Memory) declared below some may decided asked unfit = absurd decided

request_fits : (d : Site) (http : HttpTexts) (v : ℕ) (octets : List ℕ) (request : Request) → IsDeclared d → v < length d.nodes → IsTextsOf d.nodes d.entitlements http → ¬ (octets ≡ []) →
    http.request v octets ≡ request → IsTurnFor d (http_turn v http.response request)
request_fits d http v octets (AnswersAtOnce status body) declared below texts some is = tt
request_fits d http v octets (Calls event) declared below texts some is = by_test (is_fit (site_of d) (Ask v event Fine)) refl
  where
    by_test : (b : Bool) → is_fit (site_of d) (Ask v event Fine) ≡ b → is_fit (site_of d) (Ask v event Fine) ≡ true
    by_test true fit = fit
    by_test false unfit =
        let read = readable octets in
        absurd (none_unfit d v octets event read.0 declared below some read.1 read.2 (subst (IsAskedBy d.entitlements v read.0) is (texts.request v octets read.0 read.1)) unfit)

pub turn_fits : (d : Site) (http : HttpTexts) (v : ℕ) (octets : List ℕ) → IsDeclared d → v < length d.nodes → IsTextsOf d.nodes d.entitlements http → ¬ (octets ≡ []) →
    IsTurnFor d (http_turn v http.response (http.request v octets))
turn_fits d http v octets declared below texts some = request_fits d http v octets (http.request v octets) declared below texts some refl
