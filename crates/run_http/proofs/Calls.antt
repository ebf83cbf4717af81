-- The manager of a node may be asked to handle each event that a request to the node asks for.
use Rattle.std.proofs.Common.{◌≡◌, ◌≤◌, ◌<◌, ℕ, Bool, true, false, ◌&&◌, not, eqb, List, [], ◌∷◌, length, Result, Ok, Err, refl, sym, ap, ◌∙◌, subst, arith, codes}
use Rattle.std.specs.Prelude.{if◌then◌else◌, nat_lt, ok_or}
use Rattle.std.specs.List.{list_all}
use Rattle.std.proofs.lemmas.Bool.{and_from, and_parts, lt-ltb}
use Rattle.net_model.specs.declared.event.Event.{Event}
use Rattle.net_model.specs.declared.event.Event.TheVariants as events
use Rattle.net_model.specs.Events.{is_count, is_name, are_slaves, is_valid_event}
use Rattle.net_model.specs.Streams.{is_size}
use Rattle.net_model.specs.Step.{is_asked}
use Rattle.net_model.specs.BlockOrder.{is_block_event}
use Rattle.net_model.specs.Action.{Ok as Fine, Ask}
use Rattle.declared_site.specs.declared.site.Site.{Site}
use Rattle.declared_site.specs.SiteOf.{site_of, IsDeclared}
use Rattle.sae_entitlements.specs.Grants.{Grants}
use Rattle.http_front.specs.declared.request.HttpRequest.{HttpRequest}
use Rattle.qkd014_api.specs.Resources.{query_in}
use Rattle.qkd014_api.specs.Queries.{values_in, one_of, number_given, size_given}
use Rattle.qkd014_api.specs.Bodies.{object_in, number_in, size_in, is_blank, slaves_in, key_ids_in}
use Rattle.qkd014_api.specs.Calls.{body_or_blank, name_given, ordered_below, enc_of, enc_by_query, enc_by_body, dec_by_query, dec_by_body, asked}
use Rattle.qkd014_api.specs.declared.fault.CallFault.{CallFault}
use Rattle.qkd014_api.specs.declared.fault.CallFault.TheVariants as faults
use Rattle.run_ops.specs.Fitting.{is_plan}
use Rattle.run_ops.specs.Runnable.{IsFit}
use Rattle.qkd014_api.proofs.Chains.{same_ok, gives, is_told, tested}
use Rattle.qkd014_api.proofs.Cases.{AsksFor, status, enc_query, enc_body, dec_query, dec_body, asks_for}
use Rattle.run_model.specs.Turn.{Calls}
use Rattle.run_lines.specs.Answering.{asked_for, IsAskedOf}
use Rattle.run_lines.specs.declared.requests.Asked.{Asked}
use Rattle.run_lines.specs.declared.requests.Asked.TheVariants as sayings
use Rattle.run_http.specs.Speaking.{call_of}
use Rattle.run_http.proofs.Numbers.{body_number_right, body_size_right, query_number_right, query_size_right, query_name_right, key_ids_right}
use Rattle.run_http.proofs.Slaves.{AreChosen, slaves_chosen, group_right}

-- The event may be asked for, also in a block, and its numbers and names are in range.
abbrev IsRight : Site → ℕ → Event → Type 0
IsRight d v event = ((is_asked event && not (is_plan event) && is_block_event event) ≡ true) × (is_valid_event (site_of d) v event ≡ true)

right_fits : (d : Site) (v : ℕ) (event : Event) → v < length d.nodes → IsRight d v event → IsFit d (Ask v event Fine)
right_fits d v event below h =
    all_four (nat_lt v (length d.nodes)) (is_asked event) (not (is_plan event)) (is_valid_event (site_of d) v event) (lt-ltb v (length d.nodes) below)
    (and_parts (is_asked event && not (is_plan event)) (is_block_event event) h.0).0 h.1
  where
    all_four : (a b c e : Bool) → a ≡ true → (b && c) ≡ true → e ≡ true → (a && b && c && e) ≡ true
    all_four true true true true first both last = refl
    all_four true true true false first both last = absurd cc
    all_four true true false e first both last = absurd cc
    all_four true false c e first both last = absurd cc
    all_four false b c e first both last = absurd cc

enc_right : (d : Site) (v master slave number bits : ℕ) → is_count number ≡ true → is_size bits ≡ true → IsRight d v (events.Enc master slave number bits)
unfolding is_valid_event
enc_right d v master slave number bits n b = (refl, and_from (is_count number) (is_size bits) n b)

group_event_right : (d : Site) (v master : ℕ) (ss : List ℕ) (number bits : ℕ) → are_slaves ss ≡ true → is_count number ≡ true → is_size bits ≡ true →
    IsRight d v (events.EncGroup master ss number bits)
unfolding is_valid_event
group_event_right d v master ss number bits s n b =
    (refl, and_from (are_slaves ss && is_count number) (is_size bits) (and_from (are_slaves ss) (is_count number) s n) b)

status_right : (d : Site) (v master slave : ℕ) → IsRight d v (events.Status master slave)
unfolding is_valid_event
status_right d v master slave = (refl, refl)

query_right : (d : Site) (v : ℕ) (query : List ℕ) (master slave : ℕ) (event : Event) → enc_by_query query master slave ≡ Ok event → IsRight d v event
query_right d v query master slave event e =
    let n = gives (ok_or (number_given (one_of (values_in (codes "number") query))) faults.BadNumber) _ event e in
    let b = gives (ok_or (size_given (one_of (values_in (codes "size") query))) faults.BadSize) _ event n.2 in
    subst (IsRight d v) (same_ok (events.Enc master slave n.0 b.0) event b.2)
    (enc_right d v master slave n.0 b.0 (query_number_right (values_in (codes "number") query) n.0 (is_told (number_given (one_of (values_in (codes "number") query))) faults.BadNumber n.0 n.1))
    (query_size_right (values_in (codes "size") query) b.0 (is_told (size_given (one_of (values_in (codes "size") query))) faults.BadSize b.0 b.1)))

enc_of_right : (d : Site) (v master slave : ℕ) (ss : List ℕ) (number bits : ℕ) (event : Event) → AreChosen ss → is_count number ≡ true → is_size bits ≡ true →
    enc_of master slave ss number bits ≡ Ok event → IsRight d v event
enc_of_right d v master slave ss number bits event h n b e = by_test (eqb (length ss) 1) refl e
  where
    by_test : (t : Bool) → eqb (length ss) 1 ≡ t →
        ◌≡◌ {A = Result Event CallFault} (if t then Ok (events.Enc master slave number bits) else Ok (events.EncGroup master (ordered_below 256 ss) number bits)) (Ok event) → IsRight d v event
    by_test true one is = subst (IsRight d v) (same_ok (events.Enc master slave number bits) event is) (enc_right d v master slave number bits n b)
    by_test false more is =
        subst (IsRight d v) (same_ok (events.EncGroup master (ordered_below 256 ss) number bits) event is)
        (group_event_right d v master (ordered_below 256 ss) number bits (group_right ss h more) n b)

body_right : (d : Site) (v : ℕ) (g : Grants) (body : List ℕ) (master slave : ℕ) (event : Event) → length g.saes ≤ 256 → slave < 256 →
    enc_by_body g body master slave ≡ Ok event → IsRight d v event
body_right d v g body master slave event within below e =
    let o = gives (ok_or (object_in (body_or_blank body)) faults.BadBody) _ event e in
    let n = gives (ok_or (number_in o.0) faults.BadNumber) _ event o.2 in
    let b = gives (ok_or (size_in o.0) faults.BadSize) _ event n.2 in
    let s = gives (slaves_in g slave o.0) _ event b.2 in
    enc_of_right d v master slave s.0 n.0 b.0 event (slaves_chosen g slave o.0 s.0 within below s.1) (body_number_right o.0 n.0 (is_told (number_in o.0) faults.BadNumber n.0 n.1))
    (body_size_right o.0 b.0 (is_told (size_in o.0) faults.BadSize b.0 b.1)) (tested (is_blank o.0) faults.MandatoryRefused (enc_of master slave s.0 n.0 b.0) event s.2)

name_right : (d : Site) (v : ℕ) (query : List ℕ) (master slave : ℕ) (event : Event) → dec_by_query query master slave ≡ Ok event → IsRight d v event
unfolding is_valid_event
name_right d v query master slave event e =
    let n = gives (ok_or (name_given (one_of (values_in (codes "key_ID") query))) faults.BadKeyId) _ event e in
    let right = query_name_right (values_in (codes "key_ID") query) n.0 (is_told (name_given (one_of (values_in (codes "key_ID") query))) faults.BadKeyId n.0 n.1) in
    subst (IsRight d v) (same_ok (events.Dec slave master (n.0 ∷ [])) event n.2) (refl, and_from (is_name n.0) true right refl)

names_right : (d : Site) (v : ℕ) (body : List ℕ) (master slave : ℕ) (event : Event) → dec_by_body body master slave ≡ Ok event → IsRight d v event
unfolding is_valid_event
names_right d v body master slave event e =
    let o = gives (ok_or (object_in body) faults.BadBody) _ event e in
    let n = gives (key_ids_in o.0) _ event o.2 in
    let right = key_ids_right o.0 n.0 n.1 in
    subst (IsRight d v) (same_ok (events.Dec slave master n.0) event n.2) (refl, and_from (is_count (length n.0)) (list_all is_name n.0) right.0 right.1)

-- Each event that a request can ask for is right.
event_right : (d : Site) (v : ℕ) (g : Grants) (q : HttpRequest) (master slave : ℕ) (event : Event) → length g.saes ≤ 256 → slave < 256 → AsksFor g q master slave event → IsRight d v event
event_right d v g q master slave event within below (status e) = subst (IsRight d v) e (status_right d v master slave)
event_right d v g q master slave event within below (enc_query e) = query_right d v (query_in q.target) master slave event e
event_right d v g q master slave event within below (enc_body e) = body_right d v g q.body master slave event within below e
event_right d v g q master slave event within below (dec_query e) = name_right d v (query_in q.target) master slave event e
event_right d v g q master slave event within below (dec_body e) = names_right d v q.body master slave event e

call_right : (d : Site) (v : ℕ) (q : HttpRequest) (event : Event) → IsDeclared d → asked d.entitlements v q ≡ Ok event → IsRight d v event
call_right d v q event declared e =
    let h = asks_for d.entitlements v q event e in
    let less = h.2 in
    let within = declared.saes in
    event_right d v d.entitlements q h.0 h.1 event within (omega (arith, within, less)) h.3

pub call_fits : (d : Site) (v : ℕ) (q : HttpRequest) (event : Event) → IsDeclared d → v < length d.nodes → asked d.entitlements v q ≡ Ok event → IsFit d (Ask v event Fine)
call_fits d v q event declared below e = right_fits d v event below (call_right d v q event declared e)

same_call : (x y : Event) → Calls x ≡ Calls y → x ≡ y
same_call x y e = cc

-- The manager of the node may be asked to handle what a request asks for.
pub said_fits : (d : Site) (v : ℕ) (q : HttpRequest) (said : Asked) → IsDeclared d → v < length d.nodes → asked_for said ≡ call_of (asked d.entitlements v q) → IsAskedOf d v said
said_fits d v q (sayings.AtOnce answer) declared below e = tt
said_fits d v q (sayings.Event event) declared below e = by_call (asked d.entitlements v q) refl e
  where
    by_call : (r : Result Event CallFault) → asked d.entitlements v q ≡ r → Calls event ≡ call_of r → IsAskedOf d v (sayings.Event event)
    by_call (Ok other) is same =
        let right = call_right d v q event declared (is ∙ ap Ok (same_call other event (sym same))) in
        (right_fits d v event below right, (and_parts (is_asked event && not (is_plan event)) (is_block_event event) right.0).1)
    by_call (Err fault) is same = absurd cc
