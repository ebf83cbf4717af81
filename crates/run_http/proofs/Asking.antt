-- What two requests ask for, by their parts.
use Rattle.std.proofs.Common.{◌≡◌, ◌≤◌, ℕ, Bool, true, false, List, [], ◌∷◌, length, take, Option, Some, None, Ok, Err, refl, sym, ap, ◌∙◌, arith, codes, append-nil}
use lib.Utf8.{encode}
use Rattle.std.specs.Prelude.{if◌then◌else◌, ok_or}
use Rattle.std.specs.List.{list_all}
use Rattle.std.specs.Str.{is_utf8, chars}
use Rattle.std.proofs.lemmas.Bool.{false≢true}
use Rattle.std.proofs.lemmas.Str.{IsUtf8-from_is_utf8}
use Rattle.std.proofs.lemmas.List.Sums.{AllPass-from_list_all}
use Rattle.std.proofs.lemmas.List.Elements.{All-nil, All-cons}
use Rattle.httparse.specs.Grammar.{is_token_byte, is_uri_byte, is_value_byte, crlf, Field, IsField, RequestHead, IsRequestHead, print_request}
use Rattle.httparse.proofs.OnLiterals.{httparse_on_literals}
use Rattle.http_front.specs.Front.{fields_of, framing_of, closes, IsRequest}
use Rattle.http_front.specs.declared.request.HttpRequest.{HttpRequest}
use Rattle.net_model.specs.declared.event.Event.TheVariants as events
use Rattle.matchit.proofs.OnLiterals.{matchit_on_literals}
use Rattle.form_urlencoded.proofs.OnLiterals.{form_urlencoded_on_literals}
use Rattle.sae_entitlements.specs.Grants.{none, with_sae, is_allowed}
use Rattle.sae_entitlements.proofs.Pairs.{allowed_after}
use Rattle.qkd014_api.specs.Resources.{routes}
use Rattle.qkd014_api.specs.Calls.{◌>>=◌, asked}
use Rattle.qkd014_api.specs.declared.fault.CallFault.TheVariants as faults
use Rattle.run_model.specs.Turn.{HttpTexts, Calls}
use Rattle.run_http.specs.Asking.{alice_and_bob, by_alice, by_carol}
use Rattle.run_http.specs.LineEnds.{behind_line_ends, opens_target}
use Rattle.run_http.specs.Reading.{MayBeRead}
use Rattle.run_http.specs.Speaking.{message, call_of, IsTextsOf}
use Rattle.run_http.proofs.Ends.{is_opens}

-- ---- the parts of a request by one application

abbrev caller : List ℕ → Field
caller id = record { name = codes "X-SAE-ID"; raw = 32 ∷ id; end = crlf }

abbrev head_by : List ℕ → RequestHead
head_by id = record {
  blank = [];
  method = codes "GET";
  target = codes "/api/v1/keys/bob/enc_keys";
  minor = 1;
  line_end = crlf;
  fields = caller id ∷ [];
  last = crlf;
}

abbrev request_by : List ℕ → HttpRequest
request_by id = record { method = codes "GET"; target = codes "/api/v1/keys/bob/enc_keys"; fields = (codes "X-SAE-ID", id) ∷ []; body = []; close = false }

is_head : (id : List ℕ) → list_all is_value_byte id ≡ true → IsRequestHead (head_by id)
unfolding httparse_on_literals is_utf8 chars encode
is_head id bytes = record {
  method = (omega arith, AllPass-from_list_all is_token_byte (codes "GET") refl);
  target = (omega arith, AllPass-from_list_all is_uri_byte (codes "/api/v1/keys/bob/enc_keys") refl);
  target_text = IsUtf8-from_is_utf8 (codes "/api/v1/keys/bob/enc_keys") refl;
  minor = omega arith;
  fields = All-cons IsField (caller id) []
      (record { name = (omega arith, AllPass-from_list_all is_token_byte (codes "X-SAE-ID") refl); raw = AllPass-from_list_all is_value_byte (32 ∷ id) bytes }) (All-nil IsField);
}

is_request : (id octets : List ℕ) → list_all is_value_byte id ≡ true → octets ≡ print_request (head_by id) → length octets ≤ 8192 → fields_of (head_by id) ≡ (codes "X-SAE-ID", id) ∷ [] → IsRequest octets (request_by id) []
is_request id octets bytes prints short fields = record {
  head = head_by id;
  has = record { reads = (is_head id bytes, prints ∙ sym (append-nil (print_request (head_by id)))); few = omega arith; short = (let size = ap length prints in omega (arith, size, short)) };
  method = refl;
  target = refl;
  fields = sym fields;
  framed = ap (framing_of (codes "GET")) fields;
  close = ap (closes 1) (sym fields);
}

may_be : (id octets : List ℕ) → IsRequest octets (request_by id) [] → opens_target false (behind_line_ends (take 8193 octets)) ≡ false → MayBeRead octets (Ok (request_by id))
may_be id octets h ends = record { may = ([], h); short = λ open_target. absurd (false≢true (sym ends ∙ is_opens (take 8193 octets) open_target)) }

alice_reads : MayBeRead by_alice (Ok (request_by (codes "alice")))
unfolding httparse_on_literals
alice_reads = may_be (codes "alice") by_alice (is_request (codes "alice") by_alice refl refl (omega arith) refl) refl

carol_reads : MayBeRead by_carol (Ok (request_by (codes "carol")))
unfolding httparse_on_literals
carol_reads = may_be (codes "carol") by_carol (is_request (codes "carol") by_carol refl refl (omega arith) refl) refl

-- ---- what is asked for

alice_may : is_allowed alice_and_bob 0 1 ≡ true
alice_may = allowed_after (with_sae (with_sae none (codes "alice") 0) (codes "bob") 1) 0 1 0 1

abbrev pair_if : Bool → Option (ℕ × ℕ)
pair_if may = if may then Some (0, 1) else None

alice_asks : asked alice_and_bob 0 (request_by (codes "alice")) ≡ Ok (events.Enc 0 1 1 256)
unfolding asked routes is_utf8 chars encode matchit_on_literals form_urlencoded_on_literals
alice_asks =
    ap (λ (may : Bool). ok_or (pair_if may) faults.NotAllowed >>= λ pair. Ok (events.Enc pair.0 pair.1 1 256)) alice_may

carol_asks : asked alice_and_bob 0 (request_by (codes "carol")) ≡ Err faults.NotAllowed
unfolding asked routes is_utf8 chars encode matchit_on_literals form_urlencoded_on_literals
carol_asks = refl

pub requests_ask : (nodes : List (List ℕ)) (http : HttpTexts) → IsTextsOf nodes alice_and_bob http → (http.request 0 by_alice ≡ Calls (events.Enc 0 1 1 256)) × (http.request 0 by_carol ≡ message 401 (codes "not allowed"))
requests_ask nodes http texts = (
  texts.request 0 by_alice (Ok (request_by (codes "alice"))) alice_reads ∙ ap call_of alice_asks,
  texts.request 0 by_carol (Ok (request_by (codes "carol"))) carol_reads ∙ ap call_of carol_asks,
)
