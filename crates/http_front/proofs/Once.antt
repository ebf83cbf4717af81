-- Octets have at most one answer.
use Rattle.std.proofs.Common.{◌≡◌, ℕ, ◌+◌, ◌≤◌, ◌<◌, ◌⊎◌, true, false, ltb, List, [], ◌∷◌, ◌++◌, length, take, get_or, zero, suc, Option, Some, None, Result, Ok, Err, refl, sym, ap, ◌∙◌, subst, arith, rules, append-nil, length-append, inl, inr}
use Rattle.std.specs.Prelude.{if◌then◌else◌, nat_lt}
use Rattle.std.proofs.lemmas.List.{take_at, take_all}
use Rattle.std.proofs.lemmas.List.Elements.{All-nil, All-cons}
use Rattle.std.proofs.lemmas.Str.{IsUtf8-from_ascii}
use Rattle.std.specs.Io.KnownBytes.{prepend_known}
use Rattle.httparse.specs.Grammar.{RequestHead, IsRequestHead, print_request, print_blank, print_end, LineEnd, lf, crlf, IsField, is_token_byte, is_uri_byte}
use Rattle.httparse.proofs.GrammarLemmas.{request_unique}
use Rattle.httparse.proofs.OpenLemmas.{letter_is_token}
use Rattle.http_front.specs.Front.{HasHead, HasNoHead, MayBecomeHead, IsFront, HasNoFront, EndsInHead, EndsInBody, IsFramedAs, framing_of, fields_of, closes, IsRequest}
use Rattle.http_front.specs.Reading.{IsRead, IsMeant, IsDecided, MayBe, IsBad, IsUnsettled, OneAnswer, no_more}
use Rattle.http_front.specs.declared.refusal.FrontRefusal.{FrontRefusal}
use Rattle.http_front.specs.declared.refusal.FrontRefusal.TheVariants as refusals
use Rattle.http_front.specs.declared.request.HttpRequest.{HttpRequest}
use Rattle.http_front.proofs.Lines.{field_lines, print_request-lines}
use Rattle.http_front.proofs.Answering.{read-meant}

-- ---- the answer for a head and the octets after it

outcome-at : RequestHead → List ℕ → ℕ → Result HttpRequest FrontRefusal
outcome-at h rest n =
    if nat_lt (length rest) n then Err refusals.EndOfInput
    else Ok (record { method = h.method; target = h.target; fields = fields_of h; body = take n rest; close = closes h.minor (fields_of h) })

outcome-by : RequestHead → List ℕ → Result ℕ FrontRefusal → Result HttpRequest FrontRefusal
outcome-by h rest (Err e) = Err e
outcome-by h rest (Ok n) = outcome-at h rest n

outcome : RequestHead → List ℕ → Result HttpRequest FrontRefusal
outcome h rest = outcome-by h rest (framing_of h.method (fields_of h))

outcome-framed : (h : RequestHead) (rest : List ℕ) (e : FrontRefusal) → framing_of h.method (fields_of h) ≡ Err e → Err e ≡ outcome h rest
unfolding outcome outcome-by
outcome-framed h rest e is = sym (ap (outcome-by h rest) is)

outcome-short : (h : RequestHead) (rest : List ℕ) (n : ℕ) → framing_of h.method (fields_of h) ≡ Ok n → length rest < n → Err refusals.EndOfInput ≡ outcome h rest
unfolding outcome outcome-by outcome-at
outcome-short h rest n is less =
    let yes : ltb (length rest) n ≡ true = search (rules, less) in
    sym (ap (outcome-by h rest) is ∙ rw yes refl)

outcome-request : (octets : List ℕ) (q : HttpRequest) (rest : List ℕ) → (is : IsRequest octets q rest) → Ok q ≡ outcome is.head (q.body ++ rest)
unfolding outcome outcome-by outcome-at
outcome-request octets q rest is =
    let size : length (q.body ++ rest) ≡ length q.body + length rest = length-append q.body rest in
    let fits : ltb (length (q.body ++ rest)) (length q.body) ≡ false = search (rules, size) in
    let body : take (length q.body) (q.body ++ rest) ≡ q.body = take_at q.body rest (length q.body) refl in
    let made : q ≡ record { method = (is.head).method; target = (is.head).target; fields = fields_of is.head; body = take (length q.body) (q.body ++ rest); close = closes (is.head).minor (fields_of is.head) } =
    λ i. record { method = is.method i; target = is.target i; fields = is.fields i; body = sym body i; close = is.close i } in
    sym (ap (outcome-by is.head (q.body ++ rest)) is.framed ∙ rw fits (ap Ok (sym made)))

ltb-yes : (a b : ℕ) → a < b → ltb a b ≡ true
ltb-yes a b less = search rules

ltb-no : (a b : ℕ) → b ≤ a → ltb a b ≡ false
ltb-no a b less = search rules

-- ---- three kinds of octets

-- A head is found, or none is there yet though one may begin, or none will ever be there.
data Kind (octets : List ℕ) (r : Result HttpRequest FrontRefusal) : Type 0 where
  found : (h : RequestHead) (rest : List ℕ) → HasHead octets h rest → r ≡ outcome h rest → Kind octets r
  begun : (e : FrontRefusal) → HasNoHead octets → IsFront (take 8193 octets) → r ≡ Err e → (e ≡ (if nat_lt 8192 (length octets) then refusals.HeadTooLong else no_more octets)) → Kind octets r
  bad : HasNoFront octets → IsBad r → Kind octets r

-- the shortest head
abbrev short_head : RequestHead
short_head = record { blank = []; method = 65 ∷ []; target = 65 ∷ []; minor = 1; line_end = lf; fields = []; last = lf }

ascii : (i : ℕ) → get_or (65 ∷ []) i 0 < 128
ascii zero = omega arith
ascii (suc i) = omega arith

short-is : IsRequestHead short_head
short-is = record {
  method = (omega arith, All-cons (λ v. is_token_byte v ≡ true) 65 [] letter_is_token (All-nil (λ v. is_token_byte v ≡ true)));
  target = (omega arith, All-cons (λ v. is_uri_byte v ≡ true) 65 [] refl (All-nil (λ v. is_uri_byte v ≡ true)));
  target_text = IsUtf8-from_ascii (65 ∷ []) ascii;
  minor = omega arith;
  fields = All-nil IsField;
}

nothing-becomes : MayBecomeHead []
nothing-becomes = (print_request short_head, short_head, record { reads = (short-is, sym (append-nil (print_request short_head))); few = omega arith })

nothing-has-none : HasNoHead []
nothing-has-none h rest has =
    let whole = has.reads.1 ∙ ap (λ (t : List ℕ). t ++ rest) (print_request-lines h) in
    let a = ap length whole in
    let b = length-append (print_blank h.blank ++ (field_lines h ++ print_end h.last)) rest in
    let d = length-append (print_blank h.blank) (field_lines h ++ print_end h.last) in
    let e = length-append (field_lines h) (print_end h.last) in
    let f = ends h.last in
    absurd (omega (arith, a, b, d, e, f))
  where
    ends : (e : LineEnd) → 1 ≤ length (print_end e)
    ends crlf = omega arith
    ends lf = omega arith

framed-kind : (octets : List ℕ) (e : FrontRefusal) → IsFramedAs octets e → Kind octets (Err e)
framed-kind octets e is = found is.0 is.1 is.2 (outcome-framed is.0 is.1 e is.3)

kind-of : (octets : List ℕ) (r : Result HttpRequest FrontRefusal) → MayBe octets r → IsDecided r → Kind octets r
kind-of octets (Ok q) is decided = found is.1.head (q.body ++ is.0) is.1.has (outcome-request octets q is.0 is.1)
kind-of octets (Err refusals.NoRequest) is decided =
    subst (λ (t : List ℕ). Kind t (Err refusals.NoRequest)) (sym is) (begun refusals.NoRequest nothing-has-none (inl nothing-becomes) refl refl)
kind-of octets (Err refusals.BadHead) is decided = bad is tt
kind-of octets (Err refusals.TooManyHeaders) is decided = bad is tt
kind-of octets (Err refusals.HeadTooLong) is decided =
    let long : ltb 8192 (length octets) ≡ true = ltb-yes 8192 (length octets) is.long in
    begun refusals.HeadTooLong is.none is.front refl (rw long refl)
kind-of octets (Err refusals.Chunked) is decided = framed-kind octets refusals.Chunked is
kind-of octets (Err refusals.NoLength) is decided = framed-kind octets refusals.NoLength is
kind-of octets (Err refusals.BadLength) is decided = framed-kind octets refusals.BadLength is
kind-of octets (Err refusals.BodyTooLong) is decided = framed-kind octets refusals.BodyTooLong is
kind-of octets (Err refusals.EndOfInput) is decided = ends octets is
  where
    ends : (octets : List ℕ) → EndsInHead octets ⊎ EndsInBody octets → Kind octets (Err refusals.EndOfInput)
    ends octets (inr body) = found body.0 body.1 body.3 (outcome-short body.0 body.1 body.2 body.4 body.5)
    ends octets (inl head) =
        let less = head.short in
        let some = head.some in
        let short : ltb 8192 (length octets) ≡ false = ltb-no 8192 (length octets) less in
        let more : no_more octets ≡ refusals.EndOfInput = search (rules, some) in
        begun refusals.EndOfInput head.none (subst IsFront (sym (take_all 8193 octets (omega arith))) head.front) refl (sym (rw short more))
kind-of octets (Err refusals.ReadFault) is decided = absurd decided
kind-of octets (Err refusals.Memory) is decided = absurd decided

-- ---- one answer

front-or-never : (octets : List ℕ) → HasNoFront octets → IsFront (take 8193 octets) → IsUnsettled octets
front-or-never octets is (inl may) = absurd (is.never may)
front-or-never octets is (inr target) = record { target = target; never = is.never }

same-kind : (octets : List ℕ) (r s : Result HttpRequest FrontRefusal) → Kind octets r → Kind octets s → (r ≡ s) ⊎ (IsBad r × IsBad s) ⊎ IsUnsettled octets
same-kind octets r s (found h x has is) (found k y had was) =
    let same = request_unique octets h k x y has.reads had.reads in
    inl (is ∙ ap (λ (h : RequestHead). outcome h x) same.0 ∙ ap (outcome k) same.1 ∙ sym was)
same-kind octets r s (found h x has is) (begun e none front was told) = absurd (none h x has)
same-kind octets r s (found h x has is) (bad never was) = absurd (never.none h x has)
same-kind octets r s (begun e none front is told) (found k y had was) = absurd (none k y had)
same-kind octets r s (begun e none front is told) (begun f none_too front_too was told_too) = inl (is ∙ ap Err (told ∙ sym told_too) ∙ sym was)
same-kind octets r s (begun e none front is told) (bad never was) = inr (inr (front-or-never octets never front))
same-kind octets r s (bad never is) (found k y had was) = absurd (never.none k y had)
same-kind octets r s (bad never is) (begun f none front was told) = inr (inr (front-or-never octets never front))
same-kind octets r s (bad never is) (bad never_too was) = inr (inl (is, was))

meant-may : (octets rest : List ℕ) (r : Result HttpRequest FrontRefusal) → IsMeant octets rest r → MayBe octets r
meant-may octets rest (Ok q) is = (rest, is)
meant-may octets rest (Err e) is = is.1

pub read-once : (l0 l1 : Option (List ℕ)) (k0 k1 : List ℕ) (r : Result HttpRequest FrontRefusal) → IsRead l0 l1 k0 k1 r
    → OneAnswer (prepend_known k0 l0) r
read-once None l1 k0 k1 r is = tt
read-once (Some x) None k0 k1 r is = absurd is.consumed
read-once (Some x) (Some y) k0 k1 r is = λ s may told decided.
    let meant : IsMeant (k0 ++ x) (k1 ++ y) r = read-meant (Some x) (Some y) k0 k1 r is in
    same-kind (k0 ++ x) r s (kind-of (k0 ++ x) r (meant-may (k0 ++ x) (k1 ++ y) r meant) decided) (kind-of (k0 ++ x) s may told)
