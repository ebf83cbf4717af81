-- All readings of a connection's octets ask for the same thing.
use Rattle.std.proofs.Common.{ℕ, List, [], take, Some, Result, Ok, Err, refl, sym, ◌∙◌, subst, arith, append-nil, inl, inr}
use Rattle.sae_entitlements.specs.Grants.{Grants}
use Rattle.httparse.specs.Grammar.{EndsInTarget}
use Rattle.http_front.specs.Front.{IsRequest, IsRefused}
use Rattle.http_front.specs.Reading.{IsRead, IsEnd, MayBe, IsDecided, IsBad}
use Rattle.http_front.proofs.Once.{read-once}
use Rattle.http_front.specs.declared.refusal.FrontRefusal.{FrontRefusal}
use Rattle.http_front.specs.declared.refusal.FrontRefusal.TheVariants as refusals
use Rattle.http_front.specs.declared.request.HttpRequest.{HttpRequest}
use Rattle.qkd014_api.specs.Fronts.{front_message}
use Rattle.run_model.specs.Turn.{Request}
use Rattle.run_http.specs.Reading.{MayBeRead}
use Rattle.run_http.specs.Speaking.{IsToldBy, IsAskedBy}

at_end : (e : FrontRefusal) → IsEnd e (Some [])
at_end refusals.NoRequest = refl
at_end refusals.EndOfInput = refl
at_end refusals.BadHead = tt
at_end refusals.TooManyHeaders = tt
at_end refusals.HeadTooLong = tt
at_end refusals.Chunked = tt
at_end refusals.NoLength = tt
at_end refusals.BadLength = tt
at_end refusals.BodyTooLong = tt
at_end refusals.ReadFault = tt
at_end refusals.Memory = tt

-- An answer that the octets may have can be read from them, with all octets kept and the source at its end.
is_read : (octets : List ℕ) (r : Result HttpRequest FrontRefusal) → MayBe octets r → (kept : List ℕ) × IsRead (Some []) (Some []) octets kept r
is_read octets (Ok q) may = (
  may.0,
  record {
    taken = [];
    consumed = refl;
    few = omega arith;
    spare = λ enough. refl;
    answer = subst (λ (t : List ℕ). IsRequest t q may.0) (sym (append-nil octets)) may.1;
  },
)
is_read octets (Err e) may = (
  octets,
  record {
    taken = [];
    consumed = refl;
    few = omega arith;
    spare = λ enough. refl;
    answer = (sym (append-nil octets), subst (λ (t : List ℕ). IsRefused t e) (sym (append-nil octets)) may, at_end e);
  },
)

-- Both refusals of a bad head have the same message.
bad_gives : (r : Result HttpRequest FrontRefusal) → IsBad r → (g : Grants) (v : ℕ) (request : Request) → IsAskedBy g v r request → IsToldBy (front_message refusals.BadHead) request
bad_gives (Err refusals.BadHead) bad g v request asked = asked
bad_gives (Err refusals.TooManyHeaders) bad g v request asked = asked
bad_gives (Ok q) bad g v request asked = absurd bad
bad_gives (Err refusals.NoRequest) bad g v request asked = absurd bad
bad_gives (Err refusals.HeadTooLong) bad g v request asked = absurd bad
bad_gives (Err refusals.Chunked) bad g v request asked = absurd bad
bad_gives (Err refusals.NoLength) bad g v request asked = absurd bad
bad_gives (Err refusals.BadLength) bad g v request asked = absurd bad
bad_gives (Err refusals.BodyTooLong) bad g v request asked = absurd bad
bad_gives (Err refusals.EndOfInput) bad g v request asked = absurd bad
bad_gives (Err refusals.ReadFault) bad g v request asked = absurd bad
bad_gives (Err refusals.Memory) bad g v request asked = absurd bad

bad_back : (r : Result HttpRequest FrontRefusal) → IsBad r → (g : Grants) (v : ℕ) (request : Request) → IsToldBy (front_message refusals.BadHead) request → IsAskedBy g v r request
bad_back (Err refusals.BadHead) bad g v request asked = asked
bad_back (Err refusals.TooManyHeaders) bad g v request asked = asked
bad_back (Ok q) bad g v request asked = absurd bad
bad_back (Err refusals.NoRequest) bad g v request asked = absurd bad
bad_back (Err refusals.HeadTooLong) bad g v request asked = absurd bad
bad_back (Err refusals.Chunked) bad g v request asked = absurd bad
bad_back (Err refusals.NoLength) bad g v request asked = absurd bad
bad_back (Err refusals.BadLength) bad g v request asked = absurd bad
bad_back (Err refusals.BodyTooLong) bad g v request asked = absurd bad
bad_back (Err refusals.EndOfInput) bad g v request asked = absurd bad
bad_back (Err refusals.ReadFault) bad g v request asked = absurd bad
bad_back (Err refusals.Memory) bad g v request asked = absurd bad

pub readings_agree : (g : Grants) (v : ℕ) (octets : List ℕ) (r s : Result HttpRequest FrontRefusal) (request : Request) → MayBeRead octets r → MayBeRead octets s → IsDecided r → IsDecided s →
    IsAskedBy g v r request → IsAskedBy g v s request
readings_agree g v octets r s request first second r_told s_told asked =
    let read = is_read octets r first.may in
    let one = read-once (Some []) (Some []) octets read.0 r read.1 in
    elim (one s (subst (λ (t : List ℕ). MayBe t s) (sym (append-nil octets)) second.may) s_told r_told) [
      | inl same ↦ subst (λ (t : Result HttpRequest FrontRefusal). IsAskedBy g v t request) same asked
      | inr other ↦ elim other [
        | inl bad ↦ bad_back s bad.1 g v request (bad_gives r bad.0 g v request asked)
        | inr unsettled ↦
            let ends = subst (λ (t : List ℕ). EndsInTarget (take 8193 t)) (append-nil octets) unsettled.target in
            subst (λ (t : Result HttpRequest FrontRefusal). IsAskedBy g v t request) (first.short ends ∙ sym (second.short ends)) asked
      ]
    ]
