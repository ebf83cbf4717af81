-- The events that requests ask for.
use Rattle.std.proofs.Common.{◌≡◌, ◌<◌, ℕ, Bool, true, false, ◌&&◌, not, eqb, List, length, Result, Ok, refl, subst, codes}
use Rattle.std.specs.Prelude.{if◌then◌else◌, nat_lt, ok_or}
use Rattle.net_model.specs.declared.event.Event.{Event}
use Rattle.net_model.specs.declared.event.Event.TheVariants as events
use Rattle.net_model.specs.Events.{is_valid_event}
use Rattle.net_model.specs.Step.{is_asked}
use Rattle.sae_entitlements.specs.Grants.{Grants}
use Rattle.declared_site.specs.declared.site.Site.{Site}
use Rattle.declared_site.specs.SiteOf.{site_of, IsDeclared}
use Rattle.http_front.specs.declared.request.HttpRequest.{HttpRequest}
use Rattle.qkd014_api.specs.Resources.{query_in}
use Rattle.qkd014_api.specs.Queries.{values_in, one_of, number_given, size_given}
use Rattle.qkd014_api.specs.Bodies.{object_in, number_in, size_in, is_blank, slaves_in, key_ids_in}
use Rattle.qkd014_api.specs.Calls.{body_or_blank, name_given, ordered_below, enc_of, enc_by_query, enc_by_body, dec_by_query, dec_by_body, asked}
use Rattle.qkd014_api.specs.declared.fault.CallFault.{CallFault}
use Rattle.qkd014_api.specs.declared.fault.CallFault.TheVariants as faults
use Rattle.qkd014_api.proofs.Chains.{same_ok, gives, tested}
use Rattle.qkd014_api.proofs.Cases.{AsksFor, status, enc_query, enc_body, dec_query, dec_body, asks_for}
use Rattle.law_base.proofs.Base.{and_right}
use Rattle.run_ops.specs.Fitting.{is_plan}
use Rattle.run_model.specs.Course.{is_request}
use Rattle.run_http.proofs.Calls.{call_fits}
use Rattle.net_serve.specs.Serving.{IsRequestTo}

abbrev IsRequest : Event → Type 0
IsRequest event = is_request event ≡ true

-- a manager is asked for a request; a request does not happen by itself
pub asked_too : (event : Event) → IsRequest event → is_asked event ≡ true
asked_too (events.Block link number bytes) h = absurd (cc h)
asked_too (events.Heard l bytes) h = absurd (cc h)
asked_too (events.Note placings) h = absurd (cc h)
asked_too _ h = refl

enc_query_is : (query : List ℕ) (master slave : ℕ) (event : Event) → enc_by_query query master slave ≡ Ok event → IsRequest event
enc_query_is query master slave event e =
    let n = gives (ok_or (number_given (one_of (values_in (codes "number") query))) faults.BadNumber) _ event e in
    let b = gives (ok_or (size_given (one_of (values_in (codes "size") query))) faults.BadSize) _ event n.2 in
    subst IsRequest (same_ok (events.Enc master slave n.0 b.0) event b.2) refl

enc_is : (master slave : ℕ) (ss : List ℕ) (number bits : ℕ) (event : Event) → enc_of master slave ss number bits ≡ Ok event → IsRequest event
enc_is master slave ss number bits event e = by_test (eqb (length ss) 1) e
  where
    by_test : (t : Bool) →
        ◌≡◌ {A = Result Event CallFault} (if t then Ok (events.Enc master slave number bits) else Ok (events.EncGroup master (ordered_below 256 ss) number bits)) (Ok event) → IsRequest event
    by_test true is = subst IsRequest (same_ok (events.Enc master slave number bits) event is) refl
    by_test false is = subst IsRequest (same_ok (events.EncGroup master (ordered_below 256 ss) number bits) event is) refl

enc_body_is : (g : Grants) (body : List ℕ) (master slave : ℕ) (event : Event) → enc_by_body g body master slave ≡ Ok event → IsRequest event
enc_body_is g body master slave event e =
    let o = gives (ok_or (object_in (body_or_blank body)) faults.BadBody) _ event e in
    let n = gives (ok_or (number_in o.0) faults.BadNumber) _ event o.2 in
    let b = gives (ok_or (size_in o.0) faults.BadSize) _ event n.2 in
    let s = gives (slaves_in g slave o.0) _ event b.2 in
    enc_is master slave s.0 n.0 b.0 event (tested (is_blank o.0) faults.MandatoryRefused (enc_of master slave s.0 n.0 b.0) event s.2)

dec_query_is : (query : List ℕ) (master slave : ℕ) (event : Event) → dec_by_query query master slave ≡ Ok event → IsRequest event
dec_query_is query master slave event e =
    let n = gives (ok_or (name_given (one_of (values_in (codes "key_ID") query))) faults.BadKeyId) _ event e in
    subst IsRequest (same_ok _ event n.2) refl

dec_body_is : (body : List ℕ) (master slave : ℕ) (event : Event) → dec_by_body body master slave ≡ Ok event → IsRequest event
dec_body_is body master slave event e =
    let o = gives (ok_or (object_in body) faults.BadBody) _ event e in
    let n = gives (key_ids_in o.0) _ event o.2 in
    subst IsRequest (same_ok (events.Dec slave master n.0) event n.2) refl

-- each kind of request
event_is : (g : Grants) (q : HttpRequest) (master slave : ℕ) (event : Event) → AsksFor g q master slave event → IsRequest event
event_is g q master slave event (status e) = subst IsRequest e refl
event_is g q master slave event (enc_query e) = enc_query_is (query_in q.target) master slave event e
event_is g q master slave event (enc_body e) = enc_body_is g q.body master slave event e
event_is g q master slave event (dec_query e) = dec_query_is (query_in q.target) master slave event e
event_is g q master slave event (dec_body e) = dec_body_is q.body master slave event e

pub request_to : (d : Site) (v : ℕ) (q : HttpRequest) (event : Event) → IsDeclared d → v < length d.nodes → asked d.entitlements v q ≡ Ok event → IsRequestTo (site_of d) v event
request_to d v q event declared below e =
    let h = asks_for d.entitlements v q event e in record {
      request = event_is d.entitlements q h.0 h.1 event h.3;
      valid = and_right (nat_lt v (length d.nodes) && is_asked event && not (is_plan event)) (is_valid_event (site_of d) v event) (call_fits d v q event declared below e);
    }
