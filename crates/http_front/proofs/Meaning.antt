-- What was read of a connection's octets is what all of its octets mean.
use Rattle.std.proofs.Common.{◌≡◌, ℕ, ◌+◌, ◌≤◌, ◌<◌, ◌⊎◌, List, [], ◌∷◌, ◌++◌, length, take, drop, min, Option, Some, None, Result, Ok, Err, refl, sym, ap, ◌∙◌, subst, arith, rules, append_assoc, append-nil, length-append, length-take, inl, inr}
use Rattle.std.specs.Prelude.{IfErr}
use Rattle.std.proofs.lemmas.List.{take-append-drop, take-append-le, take_all, drop_at}
use Rattle.std.proofs.lemmas.Bool.{cases_lt}
use Rattle.std.specs.Io.KnownBytes.{Consumes, IsAtEnd}
use Rattle.httparse.specs.Grammar.{RequestHead, print_request, ReadsRequest}
use Rattle.httparse.proofs.GrammarLemmas.{ReadsRequest-append}
use Rattle.http_front.specs.Front.{HasHead, HasSome, HasNoHead, MayBecomeHead, IsFront, HasNoFront, IsTooLong, EndsInHead, EndsInBody, IsFramedAs, IsRequest, IsRefused, IsScarce}
use Rattle.http_front.specs.Reading.{IsHeadOf, IsNeverFor, IsOpen, IsLook, IsEnd, Came, no_more}
use Rattle.http_front.specs.declared.head.Head.{Head}
use Rattle.http_front.specs.declared.refusal.FrontRefusal.{FrontRefusal}
use Rattle.http_front.specs.declared.refusal.FrontRefusal.TheVariants as refusals
use Rattle.http_front.specs.declared.request.HttpRequest.{HttpRequest}
use Rattle.http_front.proofs.Lines.{split_front}

-- ---- heads, when more octets follow

pub head-append : (octets : List ℕ) (h : RequestHead) (rest later : List ℕ) → HasHead octets h rest → HasHead (octets ++ later) h (rest ++ later)
head-append octets h rest later has = record {
  reads = ReadsRequest-append octets h rest later has.reads;
  few = has.few;
  short = has.short;
}

-- If the octets are at least as many as those of the head, they begin with the head too.
head-within : (octets later : List ℕ) (h : RequestHead) (rest : List ℕ) → length (print_request h) ≤ length octets → HasHead (octets ++ later) h rest
    → (front : List ℕ) × HasHead octets h front
head-within octets later h rest le has =
    let cut = split_front (print_request h) rest octets later (sym has.reads.1) le in
    (cut.0, record { reads = (has.reads.0, cut.1); few = has.few; short = has.short })

-- If they are fewer, they are a part of the head.
head-beyond : (octets later : List ℕ) (h : RequestHead) (rest : List ℕ) → length octets ≤ length (print_request h) → HasHead (octets ++ later) h rest
    → MayBecomeHead octets
head-beyond octets later h rest le has =
    let cut = split_front octets later (print_request h) rest has.reads.1 le in
    (cut.0, h, record { reads = (has.reads.0, sym cut.1 ∙ sym (append-nil (print_request h))); few = has.few })

-- A prefix of a text may become whatever the text may become.
becomes-front : (a b : List ℕ) → MayBecomeHead (a ++ b) → MayBecomeHead a
becomes-front a b may =
    (b ++ may.0, may.1, record { reads = subst (λ (t : List ℕ). ReadsRequest t may.1 []) (append_assoc a b may.0) may.2.reads; few = may.2.few })

-- ---- the first 8,193 octets

front-size : (octets : List ℕ) → length (take 8193 octets) ≡ min 8193 (length octets)
front-size octets = length-take 8193 octets

front-whole : (octets : List ℕ) → take 8193 octets ++ drop 8193 octets ≡ octets
front-whole octets = take-append-drop 8193 octets

-- The first 8,193 octets are a prefix of those that more octets have.
front-grows : (octets later : List ℕ) → (more : List ℕ) × (take 8193 (octets ++ later) ≡ take 8193 octets ++ more)
front-grows octets later =
    elim (cases_lt 8193 (length octets)) [
      | inl long ↦ ([], take-append-le 8193 octets later (omega arith) ∙ sym (append-nil (take 8193 octets)))
      | inr short ↦
          let whole : take 8193 (octets ++ later) ++ drop 8193 (octets ++ later) ≡ octets ++ later = front-whole (octets ++ later) in
          let size : length (take 8193 (octets ++ later)) ≡ min 8193 (length (octets ++ later)) = front-size (octets ++ later) in
          let sum : length (octets ++ later) ≡ length octets + length later = length-append octets later in
          let cut = split_front octets later (take 8193 (octets ++ later)) (drop 8193 (octets ++ later)) (sym whole) (omega arith) in
          (cut.0, cut.1 ∙ ap (λ (t : List ℕ). t ++ cut.0) (sym (take_all 8193 octets short)))
    ]

-- A head at the front of all octets is one at the front of the first 8,193.
head-in-front : (octets : List ℕ) (h : RequestHead) (rest : List ℕ) → HasHead octets h rest → (front : List ℕ) × HasHead (take 8193 octets) h front
head-in-front octets h rest has =
    let size : length (take 8193 octets) ≡ min 8193 (length octets) = front-size octets in
    let whole : length octets ≡ length (print_request h) + length rest = ap length has.reads.1 ∙ length-append (print_request h) rest in
    let short : length (print_request h) ≤ 8192 = has.short in
    head-within (take 8193 octets) (drop 8193 octets) h rest (omega arith)
    (subst (λ (t : List ℕ). HasHead t h rest) (sym (front-whole octets)) has)

none-in-all : (octets : List ℕ) → HasNoHead (take 8193 octets) → HasNoHead octets
none-in-all octets none h rest has = let front = head-in-front octets h rest has in none h front.0 front.1

-- ---- from the parser's answer for the first octets

pub never-refused : (octets : List ℕ) (e : FrontRefusal) → IsNeverFor (take 8193 octets) e → IsRefused octets e
never-refused octets refusals.BadHead never = record { none = none-in-all octets never.none; never = never.never }
never-refused octets refusals.TooManyHeaders never = record { none = none-in-all octets never.none; never = never.never }
never-refused octets refusals.Memory never = tt
never-refused octets refusals.NoRequest never = absurd never
never-refused octets refusals.HeadTooLong never = absurd never
never-refused octets refusals.Chunked never = absurd never
never-refused octets refusals.NoLength never = absurd never
never-refused octets refusals.BadLength never = absurd never
never-refused octets refusals.BodyTooLong never = absurd never
never-refused octets refusals.EndOfInput never = absurd never
never-refused octets refusals.ReadFault never = absurd never

pub open-too-long : (octets : List ℕ) → 8192 < length octets → IsOpen (take 8193 octets) → IsTooLong octets
open-too-long octets long open_text = record { long = long; none = none-in-all octets open_text.none; front = open_text.front }

pub open-ends : (octets : List ℕ) → 0 < length octets → length octets ≤ 8192 → IsOpen (take 8193 octets) → EndsInHead octets
open-ends octets some short open_text =
    let same : take 8193 octets ≡ octets = take_all 8193 octets (omega arith) in
    record { some = some; short = short; none = none-in-all octets open_text.none; front = subst IsFront same open_text.front }

pub head-of-all : (octets : List ℕ) (parts : Head) → IsHeadOf (take 8193 octets) parts → IsHeadOf octets parts
head-of-all octets parts is =
    let all : HasHead (take 8193 octets ++ drop 8193 octets) is.head (drop parts.len (take 8193 octets) ++ drop 8193 octets) =
    head-append (take 8193 octets) is.head (drop parts.len (take 8193 octets)) (drop 8193 octets) is.has in
    let here : HasHead octets is.head (drop parts.len (take 8193 octets) ++ drop 8193 octets) =
    subst (λ (t : List ℕ). HasHead t is.head (drop parts.len (take 8193 octets) ++ drop 8193 octets)) (front-whole octets) all in
    let rest : drop parts.len octets ≡ drop parts.len (take 8193 octets) ++ drop 8193 octets =
    ap (drop parts.len) here.reads.1 ∙ drop_at (print_request is.head) _ parts.len (sym is.len) in
    record {
      head = is.head;
      has = subst (λ (t : List ℕ). HasHead octets is.head t) (sym rest) here;
      len = is.len;
      method = is.method;
      target = is.target;
      minor = is.minor;
      fields = is.fields;
    }

-- ---- when more octets follow

pub request-append : (octets : List ℕ) (q : HttpRequest) (rest later : List ℕ) → IsRequest octets q rest → IsRequest (octets ++ later) q (rest ++ later)
request-append octets q rest later is = record {
  head = is.head;
  has = subst (λ (t : List ℕ). HasHead (octets ++ later) is.head t) (append_assoc q.body rest later) (head-append octets is.head (q.body ++ rest) later is.has);
  method = is.method;
  target = is.target;
  fields = is.fields;
  framed = is.framed;
  close = is.close;
}

no-front-append : (octets later : List ℕ) → HasNoFront octets → HasNoFront (octets ++ later)
no-front-append octets later is = record {
  none = λ h rest has.
      elim (cases_lt (length octets) (length (print_request h))) [
        | inr le ↦ let front = head-within octets later h rest le has in is.none h front.0 front.1
        | inl lt ↦
            let short : length (print_request h) ≤ 8192 = has.short in
            let same : take 8193 octets ≡ octets = take_all 8193 octets (omega arith) in
            is.never (subst MayBecomeHead (sym same) (head-beyond octets later h rest (omega arith) has))
      ];
  never = λ may.
      let grown = front-grows octets later in
      is.never (becomes-front (take 8193 octets) grown.0 (subst MayBecomeHead grown.1 may));
}

too-long-append : (octets later : List ℕ) → IsTooLong octets → IsTooLong (octets ++ later)
too-long-append octets later is =
    let long : 8192 < length octets = is.long in
    let sum : length (octets ++ later) ≡ length octets + length later = length-append octets later in
    record {
      long = omega arith;
      none = λ h rest has.
          let short : length (print_request h) ≤ 8192 = has.short in
          let front = head-within octets later h rest (omega arith) has in
          is.none h front.0 front.1;
      front = subst IsFront (sym (take-append-le 8193 octets later (omega arith))) is.front;
    }

framed-append : (octets later : List ℕ) (e : FrontRefusal) → IsFramedAs octets e → IsFramedAs (octets ++ later) e
framed-append octets later e is = (is.0, is.1 ++ later, head-append octets is.0 is.1 later is.2, is.3)

-- A refusal stays the same when more octets follow, unless its cause is the end of the input.
pub refused-append : (octets later : List ℕ) (e : FrontRefusal) (left : Option (List ℕ)) → left ≡ Some later → IsEnd e left → IsRefused octets e
    → IsRefused (octets ++ later) e
refused-append octets later refusals.NoRequest left told end is = ended octets later left told end is
  where
    ended : (octets later : List ℕ) (left : Option (List ℕ)) → left ≡ Some later → IsAtEnd left → octets ≡ [] → octets ++ later ≡ []
    ended octets later left told end is = let none : later ≡ [] = subst IsAtEnd told end in ap (λ (t : List ℕ). t ++ later) is ∙ none
refused-append octets later refusals.BadHead left told end is = no-front-append octets later is
refused-append octets later refusals.TooManyHeaders left told end is = no-front-append octets later is
refused-append octets later refusals.HeadTooLong left told end is = too-long-append octets later is
refused-append octets later refusals.Chunked left told end is = framed-append octets later _ is
refused-append octets later refusals.NoLength left told end is = framed-append octets later _ is
refused-append octets later refusals.BadLength left told end is = framed-append octets later _ is
refused-append octets later refusals.BodyTooLong left told end is = framed-append octets later _ is
refused-append octets later refusals.EndOfInput left told end is =
    let none : later ≡ [] = subst IsAtEnd told end in
    subst (λ (t : List ℕ). EndsInHead t ⊎ EndsInBody t) (sym (ap (λ (t : List ℕ). octets ++ t) none ∙ append-nil octets)) is
refused-append octets later refusals.ReadFault left told end is = tt
refused-append octets later refusals.Memory left told end is = tt

-- ---- from a known answer

pub look-head : (octets text : List ℕ) (r : Result (Option Head) FrontRefusal) (parts : Head) → text ≡ take 8193 octets → r ≡ Ok (Some parts)
    → IsLook text r → IsHeadOf octets parts
look-head octets text r parts same is look =
    let here : IsLook (take 8193 octets) (Ok (Some parts)) = subst (λ (t : List ℕ). IsLook t (Ok (Some parts))) same (subst (λ (s : Result (Option Head) FrontRefusal). IsLook text s) is look) in
    head-of-all octets parts here

pub look-refused : (octets text : List ℕ) (r : Result (Option Head) FrontRefusal) (e : FrontRefusal) → text ≡ take 8193 octets → r ≡ Err e
    → IsLook text r → IsRefused octets e
look-refused octets text r e same is look =
    let here : IsLook (take 8193 octets) (Err e) = subst (λ (t : List ℕ). IsLook t (Err e)) same (subst (λ (s : Result (Option Head) FrontRefusal). IsLook text s) is look) in
    never-refused octets e here

pub look-open : (octets text : List ℕ) (r : Result (Option Head) FrontRefusal) → text ≡ take 8193 octets → r ≡ Ok None
    → IsLook text r → IsOpen (take 8193 octets)
look-open octets text r same is look =
    let F : List ℕ → Type 0 = λ t. IsLook t (Ok None) in
    let G : Result (Option Head) FrontRefusal → Type 0 = λ s. IsLook text s in
    subst F same (subst G is look)

-- Where the parser tells that memory ran out, a head is whole.
never-scarce : (octets : List ℕ) (e : FrontRefusal) → IsNeverFor (take 8193 octets) e → IsScarce e octets
never-scarce octets refusals.Memory some =
    let whole : HasHead (take 8193 octets ++ drop 8193 octets) some.0 (some.1 ++ drop 8193 octets) =
    head-append (take 8193 octets) some.0 some.1 (drop 8193 octets) some.2 in
    inr (some.0, some.1 ++ drop 8193 octets, subst (λ (t : List ℕ). HasHead t some.0 (some.1 ++ drop 8193 octets)) (front-whole octets) whole)
never-scarce octets refusals.BadHead never = tt
never-scarce octets refusals.TooManyHeaders never = tt
never-scarce octets refusals.NoRequest never = tt
never-scarce octets refusals.HeadTooLong never = tt
never-scarce octets refusals.Chunked never = tt
never-scarce octets refusals.NoLength never = tt
never-scarce octets refusals.BadLength never = tt
never-scarce octets refusals.BodyTooLong never = tt
never-scarce octets refusals.EndOfInput never = tt
never-scarce octets refusals.ReadFault never = tt

pub look-scarce : (octets text : List ℕ) (r : Result (Option Head) FrontRefusal) (e : FrontRefusal) → text ≡ take 8193 octets → r ≡ Err e
    → IsLook text r → IsScarce e octets
look-scarce octets text r e same is look =
    let here : IsLook (take 8193 octets) (Err e) = subst (λ (t : List ℕ). IsLook t (Err e)) same (subst (λ (s : Result (Option Head) FrontRefusal). IsLook text s) is look) in
    never-scarce octets e here

-- While a head has only begun, memory may run out.
pub open-scarce : (octets : List ℕ) (e : FrontRefusal) → length octets ≤ 8192 → IsOpen (take 8193 octets) → IsScarce e octets
open-scarce octets refusals.Memory short seen =
    let same : take 8193 octets ≡ octets = take_all 8193 octets (omega arith) in
    inl (record { short = short; none = none-in-all octets seen.none; front = subst IsFront same seen.front })
open-scarce octets refusals.BadHead short seen = tt
open-scarce octets refusals.TooManyHeaders short seen = tt
open-scarce octets refusals.NoRequest short seen = tt
open-scarce octets refusals.HeadTooLong short seen = tt
open-scarce octets refusals.Chunked short seen = tt
open-scarce octets refusals.NoLength short seen = tt
open-scarce octets refusals.BadLength short seen = tt
open-scarce octets refusals.BodyTooLong short seen = tt
open-scarce octets refusals.EndOfInput short seen = tt
open-scarce octets refusals.ReadFault short seen = tt

-- Once a head is whole, it stays so, and memory may run out.
pub head-scarce : (l0 l1 : Option (List ℕ)) (before octets : List ℕ) (parts : Head) (e : FrontRefusal) → IsHeadOf before parts → Came l0 l1 before octets → IsScarce e octets
head-scarce l0 l1 before octets parts refusals.Memory is came =
    let more : HasHead (before ++ came.taken) is.head (drop parts.len before ++ came.taken) = head-append before is.head (drop parts.len before) came.taken is.has in
    inr (is.head, drop parts.len before ++ came.taken, subst (λ (t : List ℕ). HasHead t is.head (drop parts.len before ++ came.taken)) (sym came.behind) more)
head-scarce l0 l1 before octets parts refusals.BadHead is came = tt
head-scarce l0 l1 before octets parts refusals.TooManyHeaders is came = tt
head-scarce l0 l1 before octets parts refusals.NoRequest is came = tt
head-scarce l0 l1 before octets parts refusals.HeadTooLong is came = tt
head-scarce l0 l1 before octets parts refusals.Chunked is came = tt
head-scarce l0 l1 before octets parts refusals.NoLength is came = tt
head-scarce l0 l1 before octets parts refusals.BadLength is came = tt
head-scarce l0 l1 before octets parts refusals.BodyTooLong is came = tt
head-scarce l0 l1 before octets parts refusals.EndOfInput is came = tt
head-scarce l0 l1 before octets parts refusals.ReadFault is came = tt

pub found-scarce : (octets : List ℕ) (parts : Head) (e : FrontRefusal) → IsHeadOf octets parts → IsScarce e octets
found-scarce octets parts e is = head-scarce None None octets octets parts e is (record { taken = []; consumed = tt; behind = sym (append-nil octets) })

pub any-scarce : {T : Type 0} (r : Result T FrontRefusal) (octets : List ℕ) → ((e : FrontRefusal) → IsScarce e octets) → IfErr r (λ e. IsScarce e octets)
any-scarce {T} (Ok value) octets all = tt
any-scarce {T} (Err e) octets all = all e

pub open-ended : (octets : List ℕ) → length octets ≤ 8192 → IsOpen (take 8193 octets) → IsRefused octets (no_more octets)
open-ended [] short seen = refl
open-ended (x ∷ octets) short seen =
    let same : no_more (x ∷ octets) ≡ refusals.EndOfInput = search rules in
    subst (IsRefused (x ∷ octets)) (sym same) (inl (open-ends (x ∷ octets) (omega arith) short seen))

pub no-more-end : (octets : List ℕ) (left : Option (List ℕ)) → IsAtEnd left → IsEnd (no_more octets) left
no-more-end [] left end = end
no-more-end (x ∷ octets) left end =
    let same : no_more (x ∷ octets) ≡ refusals.EndOfInput = search rules in
    subst (λ (e : FrontRefusal). IsEnd e left) (sym same) end

-- ---- octets that come

consumes-trans : (a b c : Option (List ℕ)) (s t : List ℕ) → Consumes a b s → Consumes b c t → Consumes a c (s ++ t)
consumes-trans None b c s t first second = tt
consumes-trans (Some x) None c s t first second = absurd first
consumes-trans (Some x) (Some y) None s t first second = absurd second
consumes-trans (Some x) (Some y) (Some z) s t first second = first ∙ ap (λ (u : List ℕ). s ++ u) second ∙ sym (append_assoc s t z)

pub came-trans : (a b c : Option (List ℕ)) (x y z : List ℕ) → Came a b x y → Came b c y z → Came a c x z
came-trans a b c x y z first second = record {
  taken = first.taken ++ second.taken;
  consumed = consumes-trans a b c first.taken second.taken first.consumed second.consumed;
  behind = second.behind ∙ ap (λ (u : List ℕ). u ++ second.taken) first.behind ∙ append_assoc x first.taken second.taken;
}

-- ---- when no more octets are needed

-- If no head is there now, none was there at first.
pub open-none : (a b : Option (List ℕ)) (before octets : List ℕ) → Came a b before octets → IsOpen (take 8193 octets) → HasSome before → ⊥
open-none a b before octets came seen some =
    let more : HasHead (before ++ came.taken) some.0 (some.1 ++ came.taken) = head-append before some.0 some.1 came.taken some.2 in
    none-in-all octets seen.none some.0 (some.1 ++ came.taken) (subst (λ (t : List ℕ). HasHead t some.0 (some.1 ++ came.taken)) (sym came.behind) more)
