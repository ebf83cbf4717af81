-- The reading of octets that end inside a target, and of other octets.
use Rattle.std.proofs.Common.{◌≡◌, ◌<◌, ℕ, ◌+◌, Bool, true, false, List, [], ◌∷◌, ◌++◌, length, take, drop, min, Option, Some, None, Result, Ok, Err, refl, sym, ap, ◌∙◌, subst, arith, append_assoc, append-nil, inl, inr, length-append, length-take}
use Rattle.std.specs.Prelude.{if◌then◌else◌, nat_lt}
use Rattle.std.proofs.lemmas.Bool.{false≢true, ltb-true, ltb-false}
use Rattle.std.proofs.lemmas.List.{take-append-drop, take_all}
use Rattle.std.proofs.lemmas.List.Elements.{All-head, All-tail}
use Rattle.httparse.specs.Grammar.{is_uri_byte, AllPass, RequestHead, print_request, ReadsRequest, print_blank, EndsInTarget}
use Rattle.httparse.specs.Pieces.{Blank, Method}
use Rattle.httparse.proofs.PieceLemmas.{Blank_deterministic, Method_deterministic, Stops_token}
use Rattle.httparse.proofs.GrammarLemmas.{request_pieces}
use Rattle.http_front.specs.Front.{HasHead, HasNoHead, IsRefused}
use Rattle.http_front.specs.Reading.{MayBe, IsMeant, Reads}
use Rattle.http_front.proofs.Lines.{split_front}
use Rattle.http_front.specs.declared.refusal.FrontRefusal.{FrontRefusal}
use Rattle.http_front.specs.declared.refusal.FrontRefusal.TheVariants.{HeadTooLong, EndOfInput}
use Rattle.http_front.specs.declared.request.HttpRequest.{HttpRequest}
use Rattle.run_http.specs.Reading.{cut_short, MayBeRead}

-- No octet of a target is a space.
no_space : (word target rest : List ℕ) → AllPass is_uri_byte target → target ≡ word ++ 32 ∷ rest → ⊥
no_space [] [] rest all e = absurd cc
no_space [] (b ∷ target) rest all e =
    let space : b ≡ 32 = cc in
    false≢true (ap is_uri_byte (sym space) ∙ All-head (λ v. is_uri_byte v ≡ true) b target all)
no_space (w ∷ word) [] rest all e = absurd cc
no_space (w ∷ word) (b ∷ target) rest all e = no_space word target rest (All-tail (λ v. is_uri_byte v ≡ true) b target all) cc

-- Octets that end inside a target begin with no head.
pub open_none : (text : List ℕ) → EndsInTarget text → (head : RequestHead) (rest : List ℕ) → ReadsRequest text head rest → ⊥
open_none text h head rest reads =
    let p = request_pieces text head rest reads in
    let line : Blank h.0 text (h.1 ++ 32 ∷ h.2) = (h.5 ∙ append_assoc (print_blank h.0) h.1 (32 ∷ h.2), Stops_token h.1 _ h.3.0 h.3.1) in
    let same = Blank_deterministic.unique _ h.0 text _ (h.1 ++ 32 ∷ h.2) p.1.1 line in
    let word : Method h.1 (h.1 ++ 32 ∷ h.2) h.2 = (h.3.0, h.3.1, refl) in
    let next = Method_deterministic.unique _ h.1 (h.1 ++ 32 ∷ h.2) _ h.2 (subst (λ (t : List ℕ). Method head.method t p.1.2.0) same.1 p.1.2.1) word in
    no_space head.target h.2 _ h.4 (sym next.1 ∙ p.1.2.2.1.0.2)

-- A head of at most 8,192 octets is found in the first 8,193.
pub in_front : (octets : List ℕ) (head : RequestHead) (rest : List ℕ) → HasHead octets head rest → (behind : List ℕ) × ReadsRequest (take 8193 octets) head behind
in_front octets head rest has =
    let whole : length octets ≡ length (print_request head) + length rest = ap length has.reads.1 ∙ length-append (print_request head) rest in
    let size : length (take 8193 octets) ≡ min 8193 (length octets) = length-take 8193 octets in
    let short = has.short in
    let cut = split_front (print_request head) rest (take 8193 octets) (drop 8193 octets) (sym has.reads.1 ∙ sym (take-append-drop 8193 octets)) (omega (arith, whole, size, short)) in
    (cut.0, (has.reads.0, cut.1))

no_head : (octets : List ℕ) → EndsInTarget (take 8193 octets) → HasNoHead octets
no_head octets h head rest has = let front = in_front octets head rest has in open_none (take 8193 octets) h head front.0 front.1

some_octets : (text : List ℕ) → EndsInTarget text → 0 < length text
some_octets text h =
    let whole = ap length (h.5 ∙ append_assoc (print_blank h.0) h.1 (32 ∷ h.2)) in
    let a = length-append (print_blank h.0) (h.1 ++ 32 ∷ h.2) in
    let b = length-append h.1 (32 ∷ h.2) in
    omega (arith, whole, a, b)

may_be_cut : (octets : List ℕ) → EndsInTarget (take 8193 octets) → (long : Bool) → nat_lt 8192 (length octets) ≡ long → IsRefused octets (if long then HeadTooLong else EndOfInput)
may_be_cut octets h true is = record { long = ltb-true 8192 (length octets) is; none = no_head octets h; front = inr h }
may_be_cut octets h false is =
    let short = ltb-false 8192 (length octets) is in
    let whole : take 8193 octets ≡ octets = take_all 8193 octets (omega (arith, short)) in
    let front : EndsInTarget octets = subst EndsInTarget whole h in
    inl (record { some = some_octets octets front; short = short; none = no_head octets h; front = inr front })

pub cut_read : (octets : List ℕ) → EndsInTarget (take 8193 octets) → MayBeRead octets (Err (cut_short octets))
cut_read octets h = record { may = may_be_cut octets h (nat_lt 8192 (length octets)) refl; short = λ ends. refl }

meant_may : (octets rest : List ℕ) (r : Result HttpRequest FrontRefusal) → IsMeant octets rest r → MayBe octets r
meant_may octets rest (Ok q) is = (rest, is)
meant_may octets rest (Err e) is = is.1

reads_may : (octets : List ℕ) (left : Option (List ℕ)) (r : Result HttpRequest FrontRefusal) → Reads (Some octets) left r → MayBe octets r
reads_may octets None r is = absurd is
reads_may octets (Some rest) r is = meant_may octets rest r is

pub other_read : (octets : List ℕ) (left : Option (List ℕ)) (r : Result HttpRequest FrontRefusal) → Reads (Some (octets ++ [])) left r → ¬ (EndsInTarget (take 8193 octets)) → MayBeRead octets r
other_read octets left r is other = record {
  may = subst (λ (t : List ℕ). MayBe t r) (append-nil octets) (reads_may (octets ++ []) left r is);
  short = λ ends. absurd (other ends);
}

-- The reading that the calls of the program found is one that the octets may have.

pub cut_told : (octets all front again : List ℕ) (e : FrontRefusal) → all ≡ octets → front ≡ take 8193 all → EndsInTarget front → again ≡ octets → e ≡ cut_short again → MayBeRead octets (Err e)
cut_told octets all front again e all_is front_is ends again_is told =
    let same : e ≡ cut_short octets = told ∙ ap cut_short again_is in
    let here : front ≡ take 8193 octets = front_is ∙ ap (take 8193) all_is in
    subst (λ (f : FrontRefusal). MayBeRead octets (Err f)) (sym same) (cut_read octets (subst EndsInTarget here ends))

pub other_told : (octets all front : List ℕ) (b : Bool) (left : Option (List ℕ)) (r : Result HttpRequest FrontRefusal) → all ≡ octets → front ≡ take 8193 all → (EndsInTarget front → b ≡ true) → b ≡ false →
    Reads (Some (octets ++ [])) left r → MayBeRead octets r
other_told octets all front b left r all_is front_is test fails read =
    let here : front ≡ take 8193 octets = front_is ∙ ap (take 8193) all_is in
    other_read octets left r read (λ ends. false≢true (sym fails ∙ test (subst EndsInTarget (sym here) ends)))
