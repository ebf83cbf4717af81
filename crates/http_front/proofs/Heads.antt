-- What the parser's answers say of a head with at most 32 fields and 8,192 octets.
use Rattle.std.proofs.Common.{◌≡◌, ℕ, ◌+◌, ◌≤◌, ◌<◌, true, false, List, [], ◌++◌, length, take, drop, map, sym, ap, ◌∙◌, subst, arith, append-nil, length-append, Result, Ok, inl, inr}
use Rattle.std.proofs.lemmas.List.{length-take-le, length-map, nil_from_length}
use Rattle.std.proofs.lemmas.Bool.{false≢true}
use Rattle.httparse.specs.Grammar.{RequestHead, print_request, ReadsRequest, HasNoRequest, MayBecomeRequest}
use Rattle.httparse.specs.Spans.{span_bytes, header_bytes, name_and_value, IsRequestWithin, IsRequestAt, RequestOverflows}
use Rattle.httparse.specs.Outcome.{OnPartial, IfComplete}
use Rattle.httparse.specs.declared.Error.{Error}
use Rattle.httparse.specs.declared.Status.{Status}
use Rattle.httparse.specs.declared.Status.TheVariants.{Complete, Partial}
use Rattle.httparse.specs.declared.spans.HeaderSpan.{HeaderSpan}
use Rattle.httparse.specs.declared.spans.RequestSpans.{RequestSpans}
use Rattle.httparse.proofs.GrammarLemmas.{request_unique}
use Rattle.http_front.specs.Lines.{begins_field_33}
use Rattle.http_front.specs.Reading.{IsHeadOf, IsNever, IsOpen}
use Rattle.http_front.proofs.Lines.{begins-none, part-of-few}

pub open-partial : (text : List ℕ) → HasNoRequest text → MayBecomeRequest text → begins_field_33 text ≡ false → IsOpen text
open-partial text none may within = record {
  none = λ h rest has. none h rest has.reads;
  front = elim may [ inl part ↦ inl (part-of-few text part.0 part.1 part.2 within) | inr target ↦ inr target ];
}

pub never-partial : (text : List ℕ) → HasNoRequest text → begins_field_33 text ≡ true → IsNever text
never-partial text none begins = record {
  none = λ h rest has. none h rest has.reads;
  never = λ may. false≢true (sym (begins-none text may.0 may.1 may.2 none) ∙ begins);
}

pub never-overflows : (text : List ℕ) → RequestOverflows 32 text → IsNever text
never-overflows text over = record {
  none = λ h rest has.
      let many : 32 < length h.fields = over [] h rest (subst (λ (t : List ℕ). ReadsRequest t h rest) (sym (append-nil text)) has.reads) in
      let few = has.few in
      omega arith;
  never = λ may.
      let many : 32 < length (may.1).fields = over may.0 may.1 [] may.2.reads in
      let few = may.2.few in
      omega arith;
}

-- A head that was found has as many fields as the parser wrote.
fields-count : (text : List ℕ) (headers : List HeaderSpan) (r : RequestSpans) (h : RequestHead) → IsRequestWithin text headers r
    → IsRequestAt text headers r h → length h.fields ≡ r.headers
fields-count text headers r h within at =
    let count : length (take r.headers headers) ≡ r.headers = length-take-le r.headers headers within.section.count_fits in
    let sizes : length (map (header_bytes text) (take r.headers headers)) ≡ length (map name_and_value h.fields) = ap length at.fields in
    let left : length (map (header_bytes text) (take r.headers headers)) ≡ length (take r.headers headers) = length-map (take r.headers headers) (header_bytes text) in
    let right : length (map name_and_value h.fields) ≡ length h.fields = length-map h.fields name_and_value in
    omega arith

pub head-found : (text : List ℕ) (headers : List HeaderSpan) (r : RequestSpans) (h : RequestHead) → length headers ≡ 32 → r.len ≤ 8192
    → IsRequestWithin text headers r → IsRequestAt text headers r h
    → IsHeadOf text (record {
      method = span_bytes text r.method;
      target = span_bytes text r.path;
      minor = r.version;
      fields = map (header_bytes text) (take r.headers headers);
      len = r.len;
    })
head-found text headers r h room short within at =
    let count : length h.fields ≡ r.headers = fields-count text headers r h within at in
    let fits : r.headers ≤ length headers = within.section.count_fits in
    let len : r.len ≡ length (print_request h) = at.len in
    record {
      head = h;
      has = record { reads = at.reads; few = omega arith; short = omega arith };
      len = at.len;
      method = at.method;
      target = at.path;
      minor = at.version;
      fields = at.fields;
    }

pub open-long : (text : List ℕ) (headers : List HeaderSpan) (r : RequestSpans) (h : RequestHead) → length headers ≡ 32 → 8192 < r.len
    → length text ≤ 8193 → IsRequestWithin text headers r → IsRequestAt text headers r h → IsOpen text
open-long text headers r h room long most within at =
    let count : length h.fields ≡ r.headers = fields-count text headers r h within at in
    let fits : r.headers ≤ length headers = within.section.count_fits in
    let len : r.len ≡ length (print_request h) = at.len in
    let inside : r.len ≤ length text = within.section.len_fits in
    let whole : text ≡ print_request h ++ drop r.len text = at.reads.1 in
    let sizes : length text ≡ length (print_request h) + length (drop r.len text) = ap length whole ∙ length-append (print_request h) (drop r.len text) in
    let empty : drop r.len text ≡ [] = nil_from_length (drop r.len text) (omega arith) in
    record {
      none = λ k rest has.
          let same : h ≡ k = (request_unique text h k (drop r.len text) rest at.reads has.reads).0 in
          let short : length (print_request k) ≤ 8192 = has.short in
          let lens : length (print_request h) ≡ length (print_request k) = ap (λ (x : RequestHead). length (print_request x)) same in
          omega arith;
      front = inl (
        [],
        h,
        record {
          reads = (at.reads.0, append-nil text ∙ whole ∙ ap (λ (t : List ℕ). print_request h ++ t) empty);
          few = omega arith;
        },
      );
    }

-- what a contract of the parser says if the answer is known
pub at-partial : {P : Type 0} (r : Result (Status RequestSpans) Error) → r ≡ Ok Partial → OnPartial r P → P
at-partial {P} r is h = let F : Result (Status RequestSpans) Error → Type 0 = λ r. OnPartial r P in subst F is h

pub at-complete : (P : RequestSpans → Type 0) (r : Result (Status RequestSpans) Error) (s : RequestSpans) → r ≡ Ok (Complete s) → IfComplete r P → P s
at-complete P r s is h = let F : Result (Status RequestSpans) Error → Type 0 = λ r. IfComplete r P in subst F is h
