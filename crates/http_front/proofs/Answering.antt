-- What the answer says of the octets that came.
use Rattle.std.proofs.Common.{◌≡◌, ℕ, ◌+◌, ◌-◌, ◌≤◌, ◌<◌, Bool, true, false, List, [], ◌∷◌, ◌++◌, length, take, drop, max, leb, Option, Some, None, Result, Ok, Err, refl, sym, ap, ◌∙◌, subst, arith, append_assoc, length-append, length-drop, inr}
use Rattle.std.specs.Prelude.{if◌then◌else◌, nat_le, nat_lt, slice_range, codes}
use Rattle.std.specs.Str.{bytes_eq}
use Rattle.std.proofs.lemmas.List.{nil_from_length, take-append-drop, drop_at, drop-drop, length-take-le}
use Rattle.std.specs.Io.KnownBytes.{prepend_known}
use Rattle.httparse.specs.Grammar.{RequestHead, print_request}
use Rattle.std.proofs.lemmas.Bool.Decides.{nat_tests}
use Rattle.httparse.proofs.GrammarLemmas.{request_unique}
use Rattle.http_front.specs.Fields.{Pair, values_of, decimal_of}
use Rattle.http_front.specs.Front.{HasHead, IsFramedAs, framing_of, fields_of, closes, length_in, length_at, IsRequest, IsRefused}
use Rattle.http_front.specs.Reading.{IsHeadOf, IsEnd, IsShort, Came, Suffices, IsEnough, IsAnswer, IsRead, Reads}
use Rattle.http_front.specs.declared.head.Head.{Head}
use Rattle.http_front.specs.declared.refusal.FrontRefusal.{FrontRefusal}
use Rattle.http_front.specs.declared.refusal.FrontRefusal.TheVariants as refusals
use Rattle.http_front.specs.declared.request.HttpRequest.{HttpRequest}
use Rattle.http_front.proofs.Meaning.{head-append, request-append, refused-append, came-trans}

-- ---- what framing gives

IsFraming : FrontRefusal → Type 0
IsFraming refusals.Chunked = Unit {0}
IsFraming refusals.NoLength = Unit {0}
IsFraming refusals.BadLength = Unit {0}
IsFraming refusals.BodyTooLong = Unit {0}
IsFraming _ = ⊥

Framed : Result ℕ FrontRefusal → Type 0
Framed (Ok n) = n ≤ 65536
Framed (Err e) = IsFraming e

framed-if : (b : Bool) (x y : Result ℕ FrontRefusal) → (b ≡ true → Framed x) → Framed y → Framed (if b then x else y)
framed-if true x y left right = left refl
framed-if false x y left right = right

framed-at : (n : Option ℕ) → Framed (length_at n)
unfolding Framed IsFraming
framed-at None = tt
framed-at (Some n) = framed-if (nat_le n 65536) (Ok n) (Err refusals.BodyTooLong) (λ e. within n e) tt
  where
    within : (n : ℕ) → leb n 65536 ≡ true → n ≤ 65536
    within n e = grind (arith, nat_tests)

framed-in : (posts : Bool) (vs : List (List ℕ)) → Framed (length_in posts vs)
unfolding Framed IsFraming
framed-in true [] = tt
framed-in false [] = omega arith
framed-in true (v ∷ []) = framed-at (decimal_of v)
framed-in false (v ∷ []) = framed-at (decimal_of v)
framed-in true (v ∷ w ∷ vs) = tt
framed-in false (v ∷ w ∷ vs) = tt

framed-of : (method : List ℕ) (fields : List Pair) → Framed (framing_of method fields)
unfolding Framed IsFraming
framed-of method fields =
    framed-if (nat_lt 0 (length (values_of (codes "transfer-encoding") fields))) (Err refusals.Chunked)
    (length_in (bytes_eq method (codes "POST")) (values_of (codes "content-length") fields)) (λ _. tt)
    (framed-in (bytes_eq method (codes "POST")) (values_of (codes "content-length") fields))

framed-refused : (octets : List ℕ) (left : Option (List ℕ)) (e : FrontRefusal) → IsFraming e → IsFramedAs octets e → IsRefused octets e × IsEnd e left
unfolding IsFraming
framed-refused octets left refusals.Chunked is as_told = (as_told, tt)
framed-refused octets left refusals.NoLength is as_told = (as_told, tt)
framed-refused octets left refusals.BadLength is as_told = (as_told, tt)
framed-refused octets left refusals.BodyTooLong is as_told = (as_told, tt)
framed-refused octets left refusals.NoRequest is as_told = absurd is
framed-refused octets left refusals.BadHead is as_told = absurd is
framed-refused octets left refusals.TooManyHeaders is as_told = absurd is
framed-refused octets left refusals.HeadTooLong is as_told = absurd is
framed-refused octets left refusals.EndOfInput is as_told = absurd is
framed-refused octets left refusals.ReadFault is as_told = absurd is
framed-refused octets left refusals.Memory is as_told = absurd is

pub read-answer : (l0 l2 : Option (List ℕ)) (o0 o2 kept : List ℕ) (r : Result HttpRequest FrontRefusal) → Came l0 l2 o0 o2
    → length o2 ≤ max (length o0) 73728 → (IsEnough o0 → o2 ≡ o0) → IsAnswer o2 kept l2 r → IsRead l0 l2 o0 kept r
read-answer l0 l2 o0 o2 kept r came few still answer =
    let size : length o2 ≡ length o0 + length came.taken = ap length came.behind ∙ length-append o0 came.taken in
    record {
      taken = came.taken;
      consumed = came.consumed;
      few = omega arith;
      spare = λ enough.
          let same : length o2 ≡ length o0 = ap length (still enough) in
          nil_from_length came.taken (omega arith);
      answer = subst (λ (t : List ℕ). IsAnswer t kept l2 r) came.behind answer;
    }

-- The framing of the parts is the framing of the head.
framing-same : (octets : List ℕ) (parts : Head) (is : IsHeadOf octets parts) → framing_of parts.method parts.fields ≡ framing_of is.head.method (fields_of is.head)
framing-same octets parts is =
    ap (λ (m : List ℕ). framing_of m parts.fields) is.method ∙ ap (framing_of is.head.method) is.fields

-- A body has at most 65,536 octets.
framing-bound : (method : List ℕ) (fields : List Pair) (n : ℕ) → framing_of method fields ≡ Ok n → n ≤ 65536
unfolding Framed
framing-bound method fields n is = subst Framed is (framed-of method fields)

head-bound : (octets : List ℕ) (parts : Head) → IsHeadOf octets parts → parts.len ≤ 8192
head-bound octets parts is = let short = is.has.short in let len = is.len in omega arith

pub read-framed : (l0 l1 : Option (List ℕ)) (o0 o1 : List ℕ) (parts : Head) (e : FrontRefusal) → Came l0 l1 o0 o1 → length o1 ≤ max (length o0) 8193
    → (IsEnough o0 → o1 ≡ o0) → IsHeadOf o1 parts → framing_of parts.method parts.fields ≡ Err e → IsRead l0 l1 o0 o1 (Err e)
unfolding Framed
read-framed l0 l1 o0 o1 parts e came limit still is told =
    let framing : framing_of is.head.method (fields_of is.head) ≡ Err e = sym (framing-same o1 parts is) ∙ told in
    let refused = framed-refused o1 l1 e (subst Framed told (framed-of parts.method parts.fields)) (is.head, _, is.has, framing) in
    read-answer l0 l1 o0 o1 o1 (Err e) came (omega arith) still (refl, refused.0, refused.1)

-- If the octets are enough, they contain the body of their head.
pub enough-fits : (o0 o1 : List ℕ) (parts : Head) (n : ℕ) → IsEnough o0 → o1 ≡ o0 → IsHeadOf o1 parts → framing_of parts.method parts.fields ≡ Ok n
    → parts.len + n ≤ length o1
enough-fits o0 o1 parts n enough same is told =
    let has : HasHead o1 enough.head enough.rest = subst (λ (t : List ℕ). HasHead t enough.head enough.rest) (sym same) enough.has in
    let one = request_unique o1 is.head enough.head (drop parts.len o1) enough.rest is.has.reads has.reads in
    let framing : framing_of (enough.head).method (fields_of enough.head) ≡ Ok n =
    ap (λ (h : RequestHead). framing_of h.method (fields_of h)) (sym one.0) ∙ sym (framing-same o1 parts is) ∙ told in
    let fits : n ≤ length enough.rest = subst (λ (r : Result ℕ FrontRefusal). Suffices r (length enough.rest)) framing enough.suffices in
    let size : length o1 ≡ length (print_request is.head) + length (drop parts.len o1) =
    ap length is.has.reads.1 ∙ length-append (print_request is.head) (drop parts.len o1) in
    let rest : length (drop parts.len o1) ≡ length enough.rest = ap length one.1 in
    let len : parts.len ≡ length (print_request is.head) = is.len in
    omega arith

-- So no more octets are read.
enough-still : (o0 o1 o2 : List ℕ) (parts : Head) (n : ℕ) → (IsEnough o0 → o1 ≡ o0) → IsHeadOf o1 parts → framing_of parts.method parts.fields ≡ Ok n
    → (parts.len + n ≤ length o1 → o2 ≡ o1) → IsEnough o0 → o2 ≡ o0
enough-still o0 o1 o2 parts n first is told second enough =
    second (enough-fits o0 o1 parts n enough (first enough) is told) ∙ first enough

short-answer : (o1 o2 : List ℕ) (parts : Head) (n : ℕ) (e : FrontRefusal) (l1 l2 : Option (List ℕ)) → IsHeadOf o1 parts → framing_of parts.method parts.fields ≡ Ok n
    → Came l1 l2 o1 o2 → IsShort e (length o2) (parts.len + n) l2 → IsRefused o2 e × IsEnd e l2
short-answer o1 o2 parts n refusals.EndOfInput l1 l2 is told came short =
    let rest : List ℕ = drop parts.len o1 ++ came.taken in
    let has : HasHead (o1 ++ came.taken) is.head (drop parts.len o1 ++ came.taken) = head-append o1 is.head (drop parts.len o1) came.taken is.has in
    let here : HasHead o2 is.head (drop parts.len o1 ++ came.taken) = subst (λ (t : List ℕ). HasHead t is.head (drop parts.len o1 ++ came.taken)) (sym came.behind) has in
    let size : length o2 ≡ length (print_request is.head) + length (drop parts.len o1 ++ came.taken) =
    ap length here.reads.1 ∙ length-append (print_request is.head) (drop parts.len o1 ++ came.taken) in
    let len : parts.len ≡ length (print_request is.head) = is.len in
    let less : length o2 < parts.len + n = short.0 in
    (inr (is.head, drop parts.len o1 ++ came.taken, n, here, sym (framing-same o1 parts is) ∙ told, omega arith), short.1)
short-answer o1 o2 parts n refusals.ReadFault l1 l2 is told came short = (tt, tt)
short-answer o1 o2 parts n refusals.Memory l1 l2 is told came short = (tt, tt)
short-answer o1 o2 parts n refusals.NoRequest l1 l2 is told came short = absurd short
short-answer o1 o2 parts n refusals.BadHead l1 l2 is told came short = absurd short
short-answer o1 o2 parts n refusals.TooManyHeaders l1 l2 is told came short = absurd short
short-answer o1 o2 parts n refusals.HeadTooLong l1 l2 is told came short = absurd short
short-answer o1 o2 parts n refusals.Chunked l1 l2 is told came short = absurd short
short-answer o1 o2 parts n refusals.NoLength l1 l2 is told came short = absurd short
short-answer o1 o2 parts n refusals.BadLength l1 l2 is told came short = absurd short
short-answer o1 o2 parts n refusals.BodyTooLong l1 l2 is told came short = absurd short

pub read-short : (l0 l1 l2 : Option (List ℕ)) (o0 o1 o2 : List ℕ) (parts : Head) (n : ℕ) (e : FrontRefusal) → Came l0 l1 o0 o1 → length o1 ≤ max (length o0) 8193
    → (IsEnough o0 → o1 ≡ o0) → IsHeadOf o1 parts → framing_of parts.method parts.fields ≡ Ok n → Came l1 l2 o1 o2
    → length o2 ≤ max (length o1) (parts.len + n) → (parts.len + n ≤ length o1 → o2 ≡ o1)
    → IsShort e (length o2) (parts.len + n) l2 → IsRead l0 l2 o0 o2 (Err e)
read-short l0 l1 l2 o0 o1 o2 parts n e first limit still is told second limit2 still2 short =
    let small : n ≤ 65536 = framing-bound parts.method parts.fields n told in
    let head_small : parts.len ≤ 8192 = head-bound o1 parts is in
    let refused = short-answer o1 o2 parts n e l1 l2 is told second short in
    read-answer l0 l2 o0 o2 o2 (Err e) (came-trans l0 l1 l2 o0 o1 o2 first second) (omega arith)
    (enough-still o0 o1 o2 parts n still is told still2) (refl, refused.0, refused.1)

-- A body was read, but memory ran out before it was kept.
pub read-memory : (l0 l1 l2 : Option (List ℕ)) (o0 o1 o2 : List ℕ) (parts : Head) (n : ℕ) → Came l0 l1 o0 o1 → length o1 ≤ max (length o0) 8193
    → (IsEnough o0 → o1 ≡ o0) → IsHeadOf o1 parts → framing_of parts.method parts.fields ≡ Ok n → Came l1 l2 o1 o2
    → length o2 ≤ max (length o1) (parts.len + n) → (parts.len + n ≤ length o1 → o2 ≡ o1) → IsRead l0 l2 o0 o2 (Err refusals.Memory)
read-memory l0 l1 l2 o0 o1 o2 parts n first limit still is told second limit2 still2 =
    let small : n ≤ 65536 = framing-bound parts.method parts.fields n told in
    let head_small : parts.len ≤ 8192 = head-bound o1 parts is in
    read-answer l0 l2 o0 o2 o2 (Err refusals.Memory) (came-trans l0 l1 l2 o0 o1 o2 first second) (omega arith)
    (enough-still o0 o1 o2 parts n still is told still2) (refl, tt, tt)

pub read-whole : (l0 l1 l2 : Option (List ℕ)) (o0 o1 o2 kept : List ℕ) (parts : Head) (n : ℕ) (q : HttpRequest) → Came l0 l1 o0 o1 → length o1 ≤ max (length o0) 8193
    → (IsEnough o0 → o1 ≡ o0) → IsHeadOf o1 parts → framing_of parts.method parts.fields ≡ Ok n → Came l1 l2 o1 o2
    → length o2 ≤ max (length o1) (parts.len + n) → (parts.len + n ≤ length o1 → o2 ≡ o1)
    → parts.len + n ≤ length o2 → kept ≡ drop (parts.len + n) o2
    → q ≡ record { method = parts.method; target = parts.target; fields = parts.fields; body = slice_range o2 parts.len (parts.len + n); close = closes parts.minor parts.fields }
    → IsRead l0 l2 o0 kept (Ok q)
read-whole l0 l1 l2 o0 o1 o2 kept parts n q first limit still is told second limit2 still2 whole rest made =
    let small : n ≤ 65536 = framing-bound parts.method parts.fields n told in
    let head_small : parts.len ≤ 8192 = head-bound o1 parts is in
    let body : List ℕ = take n (drop parts.len o2) in
    let minus : (parts.len + n) - parts.len ≡ n = omega arith in
    let body_is : q.body ≡ take n (drop parts.len o2) = ap (λ (r : HttpRequest). r.body) made ∙ ap (λ (m : ℕ). take m (drop parts.len o2)) minus in
    let rest_is : kept ≡ drop n (drop parts.len o2) = rest ∙ sym (drop-drop n parts.len o2) in
    let both : q.body ++ kept ≡ drop parts.len o2 =
    ap (λ (t : List ℕ). t ++ kept) body_is ∙ ap (λ (t : List ℕ). take n (drop parts.len o2) ++ t) rest_is ∙ take-append-drop n (drop parts.len o2) in
    let behind_size : length (drop parts.len o2) ≡ length o2 - parts.len = length-drop parts.len o2 in
    let body_size : length q.body ≡ n = ap length body_is ∙ length-take-le n (drop parts.len o2) (omega arith) in
    let has : HasHead (o1 ++ second.taken) is.head (drop parts.len o1 ++ second.taken) = head-append o1 is.head (drop parts.len o1) second.taken is.has in
    let here : HasHead o2 is.head (drop parts.len o1 ++ second.taken) = subst (λ (t : List ℕ). HasHead t is.head (drop parts.len o1 ++ second.taken)) (sym second.behind) has in
    let behind : drop parts.len o2 ≡ drop parts.len o1 ++ second.taken = ap (drop parts.len) here.reads.1 ∙ drop_at (print_request is.head) _ parts.len (sym is.len) in
    read-answer l0 l2 o0 o2 kept (Ok q) (came-trans l0 l1 l2 o0 o1 o2 first second) (omega arith)
    (enough-still o0 o1 o2 parts n still is told still2) (record {
      head = is.head;
      has = subst (λ (t : List ℕ). HasHead o2 is.head t) (sym (both ∙ behind)) here;
      method = ap (λ (r : HttpRequest). r.method) made ∙ is.method;
      target = ap (λ (r : HttpRequest). r.target) made ∙ is.target;
      fields = ap (λ (r : HttpRequest). r.fields) made ∙ is.fields;
      framed = sym (framing-same o1 parts is) ∙ told ∙ ap Ok (sym body_size);
      close = ap (λ (r : HttpRequest). r.close) made ∙ ap (λ (m : ℕ). closes m parts.fields) is.minor ∙ ap (closes is.head.minor) is.fields;
    })

-- ---- what all octets mean

pub read-meant : (l0 l1 : Option (List ℕ)) (k0 k1 : List ℕ) (r : Result HttpRequest FrontRefusal) → IsRead l0 l1 k0 k1 r
    → Reads (prepend_known k0 l0) (prepend_known k1 l1) r
read-meant None l1 k0 k1 r is = tt
read-meant (Some x) None k0 k1 r is = absurd is.consumed
read-meant (Some x) (Some y) k0 k1 (Ok q) is =
    let all : (k0 ++ is.taken) ++ y ≡ k0 ++ x = append_assoc k0 is.taken y ∙ ap (λ (t : List ℕ). k0 ++ t) (sym is.consumed) in
    subst (λ (t : List ℕ). IsRequest t q (k1 ++ y)) all (request-append (k0 ++ is.taken) q k1 y is.answer)
read-meant (Some x) (Some y) k0 k1 (Err e) is =
    let all : (k0 ++ is.taken) ++ y ≡ k0 ++ x = append_assoc k0 is.taken y ∙ ap (λ (t : List ℕ). k0 ++ t) (sym is.consumed) in (
      ap (λ (t : List ℕ). t ++ y) is.answer.0 ∙ all,
      subst (λ (t : List ℕ). IsRefused t e) all (refused-append (k0 ++ is.taken) y e (Some y) refl is.answer.2 is.answer.1),
    )

-- ---- steps from the results of calls

pub framing-told : (m n : List ℕ) (f g : List Pair) (r x : Result ℕ FrontRefusal) → n ≡ m → g ≡ f → r ≡ framing_of n g → r ≡ x → framing_of m f ≡ x
framing-told m n f g r x method fields told is =
    ap (λ (t : List ℕ). framing_of t f) (sym method) ∙ ap (framing_of n) (sym fields) ∙ sym told ∙ is

pub request-told : (parts : Head) (n : ℕ) (o t body : List ℕ) (q : HttpRequest) → t ≡ o → body ≡ slice_range t parts.len (parts.len + n)
    → q ≡ record { method = parts.method; target = parts.target; fields = parts.fields; body = body; close = closes parts.minor parts.fields }
    → q ≡ record { method = parts.method; target = parts.target; fields = parts.fields; body = slice_range o parts.len (parts.len + n); close = closes parts.minor parts.fields }
request-told parts n o t body q same told is =
    let cut : body ≡ slice_range o parts.len (parts.len + n) = told ∙ ap (λ (u : List ℕ). slice_range u parts.len (parts.len + n)) same in
    is ∙ (λ i. record { method = parts.method; target = parts.target; fields = parts.fields; body = cut i; close = closes parts.minor parts.fields })
