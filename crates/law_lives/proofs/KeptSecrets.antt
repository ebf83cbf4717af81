-- The entropies of the kept world's network spell the secrets that their nodes made.
use Rattle.std.proofs.Common.{◌≡◌, ℕ, zero, suc, ◌+◌, ◌-◌, ◌<◌, ◌≤◌, Bool, true, false, ◌&&◌, List, [], ◌∷◌, ◌++◌, length, length-append, append_assoc, get_or, refl, sym, ◌∙◌, ap, arith, Some}
use Rattle.std.specs.Prelude.{◌==◌, nat_lt, not, slice_index_or, if◌then◌else◌}
use Rattle.std.specs.List.{list_all, AllByRecursion}
use Rattle.std.proofs.lemmas.Bool.Decides.{nat_tests}
use Rattle.qkd_base.specs.Name.{Name, name_eq}
use Rattle.net_model.specs.declared.fact.Fact.{Fact}
use Rattle.net_model.specs.Ranges.{IsOctets, IsRangedFact}
use Rattle.net_model.specs.Table.{name_of, origin, is_secret, bytes_of, fact_at}
use Rattle.net_model.specs.OctetSequence.{OctetSequence, octets_from, sequence_of}
use Rattle.net_model.specs.Premises.{IsSite, IsOctetSequence, IsNetwork}
use Rattle.net_model.specs.Sealing.{Sealing, IsSealing}
use Rattle.net_model.specs.Site.{Site}
use Rattle.net_model.specs.View.{View}
use Rattle.law_base.proofs.Base.{and_left, and_right, eq_same}
use Rattle.law_base.proofs.Lists.{all_both, all_kept}
use Rattle.law_locality.proofs.Lists.{all_weaker, all_mapped}
use Rattle.law_lives.specs.Belongs.{view_in, facts_in, firsts, table_in, Belongs}
use Rattle.law_lives.specs.KeptWorld.{kept_fact, kept_table, bytes_from, spelled, goes_on, kept_network}
use Rattle.law_lives.proofs.KeptFacts.{AllRead}
use Rattle.law_lives.proofs.KeptKnowledge.{kept_ranged}
use Rattle.law_lives.proofs.LikeFacts.{octets_of}

-- ---- the place of a fact's bytes

pub record IsWithin (v : ℕ) (f : Fact) (facts : List Fact) : Type 0 where
  pub before : List ℕ
  pub after : List ℕ
  pub is : spelled v facts ≡ before ++ (bytes_of f ++ after)

pub own_bytes : (f : Fact) → is_secret f ≡ true → bytes_from (origin f) f ≡ bytes_of f
own_bytes f h = let own = eq_same (origin f) in ap (λ (t : Bool). if t && (origin f == origin f) then bytes_of f else []) h ∙ ap (λ (t : Bool). if t then bytes_of f else []) own

pub within : (facts : List Fact) (n : Name) (f : Fact) → fact_at facts n ≡ Some f → is_secret f ≡ true → IsWithin (origin f) f facts
within [] n f h secret = cc
within (x ∷ facts) n f h secret =
    elim (name_eq (name_of x) n) as (λ t. (if t then Some x else fact_at facts n) ≡ Some f → IsWithin (origin f) f (x ∷ facts)) [
      | true ↦ λ e.
          let is : x ≡ f = cc in
          record { before = []; after = spelled (origin f) facts; is = ap (λ (y : Fact). bytes_from (origin f) y ++ spelled (origin f) facts) is ∙ ap (λ (bs : List ℕ). bs ++ spelled (origin f) facts) (own_bytes f secret) }
      | false ↦ λ e.
          let r = within facts n f e secret in
          record {
            before = bytes_from (origin f) x ++ r.before;
            after = r.after;
            is = ap (λ (bs : List ℕ). bytes_from (origin f) x ++ bs) r.is ∙ sym (append_assoc (bytes_from (origin f) x) r.before (bytes_of f ++ r.after));
          }
    ] h

-- ---- octets of a list

octets_are : (octet : ℕ → ℕ) (place : ℕ) (bytes : List ℕ) → ((i : ℕ) → i < length bytes → octet (place + i) ≡ get_or bytes i 0) → octets_from octet place (length bytes) ≡ bytes
unfolding octets_from
octets_are octet place [] h = refl
octets_are octet place (b ∷ bytes) h =
    let here : place ≡ place + 0 = omega arith in
    let first : octet place ≡ b = ap octet here ∙ h 0 (omega arith) in
    let rest = octets_are octet (place + 1) bytes (λ i less. let next : place + 1 + i ≡ place + suc i = omega arith in ap octet next ∙ h (suc i) (omega (arith, less))) in
    λ i. first i ∷ rest i

get_behind : (xs ys : List ℕ) (i : ℕ) → get_or (xs ++ ys) (length xs + i) 0 ≡ get_or ys i 0
get_behind [] ys i = let none : 0 + i ≡ i = omega arith in ap (λ (n : ℕ). get_or ys n 0) none
get_behind (x ∷ xs) ys i = let next : suc (length xs) + i ≡ suc (length xs + i) = omega arith in ap (λ (n : ℕ). get_or (x ∷ (xs ++ ys)) n 0) next ∙ get_behind xs ys i

get_front : (xs ys : List ℕ) (i : ℕ) → i < length xs → get_or (xs ++ ys) i 0 ≡ get_or xs i 0
get_front [] ys i h = absurd (omega arith)
get_front (x ∷ xs) ys zero h = refl
get_front (x ∷ xs) ys (suc i) h = get_front xs ys i (omega arith)

-- The octets of a sequence that goes on behind a list are the list's.
front_octet : (xs : List ℕ) (t : OctetSequence) (i : ℕ) → i < length xs → (goes_on xs t).octet i ≡ get_or xs i 0
front_octet xs t i h = let less : nat_lt i (length xs) ≡ true = grind (arith, nat_tests) in ap (λ (c : Bool). if c then slice_index_or xs i 0 else t.octet (i - length xs)) less

pub middle_octets : (xs before bytes after : List ℕ) (t : OctetSequence) → xs ≡ before ++ (bytes ++ after) → octets_from (goes_on xs t).octet (length before) (length bytes) ≡ bytes
middle_octets xs before bytes after t is =
    octets_are (goes_on xs t).octet (length before) bytes (λ i less.
    let all : length xs ≡ length before + (length bytes + length after) = ap length is ∙ length-append before (bytes ++ after) ∙ ap (λ (n : ℕ). length before + n) (length-append bytes after) in
    front_octet xs t (length before + i) (omega (arith, all, less)) ∙ ap (λ (ys : List ℕ). get_or ys (length before + i) 0) is ∙ get_behind before (bytes ++ after) i ∙ get_front bytes after i less)

-- Behind a list, another list's octets give the octets of both.
one_list : (xs ys : List ℕ) (i : ℕ) → (goes_on xs (sequence_of ys)).octet i ≡ slice_index_or (xs ++ ys) i 0
one_list xs ys i =
    elim (nat_lt i (length xs)) as (λ c. nat_lt i (length xs) ≡ c → (if c then slice_index_or xs i 0 else slice_index_or ys (i - length xs) 0) ≡ slice_index_or (xs ++ ys) i 0) [
      | true ↦ λ e. let less : i < length xs = grind (arith, nat_tests) in sym (get_front xs ys i less)
      | false ↦ λ e.
          let past : length xs ≤ i = grind (arith, nat_tests) in
          let place : length xs + (i - length xs) ≡ i = omega arith in
          sym (get_behind xs ys (i - length xs)) ∙ ap (λ (k : ℕ). get_or (xs ++ ys) k 0) place
    ] refl

pub lists_behind : (xs ys : List ℕ) → goes_on xs (sequence_of ys) ≡ sequence_of (xs ++ ys)
lists_behind xs ys = let count = sym (length-append xs ys) in let octets = one_list xs ys in λ i. record { octet = λ k. octets k i; end = Some (count i) }

-- ---- the range of what is spelled

octet_below : (xs : List ℕ) → IsOctets xs → (i : ℕ) → i < length xs → get_or xs i 0 < 256
octet_below [] h i less = absurd (omega arith)
octet_below (x ∷ xs) h zero less = let low = and_left (nat_lt x 256) (list_all (λ b. nat_lt b 256) xs) h in grind (arith, nat_tests)
octet_below (x ∷ xs) h (suc i) less = octet_below xs (and_right (nat_lt x 256) (list_all (λ b. nat_lt b 256) xs) h) i (omega arith)

goes_on_octets : (xs : List ℕ) (t : OctetSequence) → IsOctets xs → IsOctetSequence t → IsOctetSequence (goes_on xs t)
goes_on_octets xs t h told i =
    elim (nat_lt i (length xs)) as (λ c. nat_lt i (length xs) ≡ c → (if c then slice_index_or xs i 0 else t.octet (i - length xs)) < 256) [
      | true ↦ λ e. let less : i < length xs = grind (arith, nat_tests) in octet_below xs h i less
      | false ↦ λ e. told (i - length xs)
    ] refl

both_octets : (xs ys : List ℕ) → IsOctets xs → IsOctets ys → IsOctets (xs ++ ys)
both_octets [] ys h k = k
both_octets (x ∷ xs) ys h k =
    let low = and_left (nat_lt x 256) (list_all (λ b. nat_lt b 256) xs) h in
    ap (λ (t : Bool). t && list_all (λ b. nat_lt b 256) (xs ++ ys)) low ∙ both_octets xs ys (and_right (nat_lt x 256) (list_all (λ b. nat_lt b 256) xs) h) k

from_octets : (v : ℕ) (f : Fact) → IsRangedFact f → IsOctets (bytes_from v f)
from_octets v f h = elim (is_secret f && (origin f == v)) as (λ t. IsOctets (if t then bytes_of f else [])) [ true ↦ octets_of f h | false ↦ refl ]

spelled_octets : (v : ℕ) (facts : List Fact) → AllByRecursion IsRangedFact facts → IsOctets (spelled v facts)
spelled_octets v [] h = refl
spelled_octets v (f ∷ facts) h = both_octets (bytes_from v f) (spelled v facts) (from_octets v f h.0) (spelled_octets v facts h.1)

all_firsts : (facts : List Fact) → AllByRecursion IsRangedFact facts → AllByRecursion IsRangedFact (firsts facts)
all_firsts [] h = tt
all_firsts (f ∷ facts) h = (h.0, all_kept IsRangedFact (λ g. not (name_eq (name_of g) (name_of f))) (firsts facts) (all_firsts facts h.1))

all_in : (views : List View) → ((v : ℕ) → AllByRecursion IsRangedFact (view_in views v).facts) → AllByRecursion IsRangedFact (facts_in views)
all_in [] h = tt
all_in (view ∷ views) h = all_both IsRangedFact view.facts (facts_in views) (h zero) (all_in views (λ v. h (suc v)))

module _ (s : Site) (devices : ℕ → OctetSequence) (views : List View) (read : AllRead views) (b : Belongs s devices views) where
  facts_ranged : (v : ℕ) → AllByRecursion IsRangedFact (view_in views v).facts
  facts_ranged v = all_weaker (λ (f : Fact). fact_at (view_in views v).facts (name_of f) ≡ Some f) IsRangedFact (λ f h. (b.formed v (name_of f) f h).1) (view_in views v).facts (read v).found

  table_ranged : AllByRecursion IsRangedFact (kept_table views)
  unfolding kept_table
  table_ranged =
      all_mapped IsRangedFact (kept_fact views) (table_in views)
      (all_weaker IsRangedFact (λ (f : Fact). IsRangedFact (kept_fact views f)) (kept_ranged s devices views read b) (table_in views)
      (all_firsts (facts_in views) (all_in views facts_ranged)))

  -- The network of the kept world is one, if its site, its frames, its devices and what its entropies are told to give are.
  pub network_kept : (sealing : Sealing) (entropies : ℕ → OctetSequence) → IsSite s → IsSealing sealing → ((link : ℕ) → IsOctetSequence (devices link)) → ((v : ℕ) → IsOctetSequence (entropies v)) →
      IsNetwork (kept_network s sealing devices entropies views)
  network_kept sealing entropies site seals given told = record {
    site = site;
    sealing = seals;
    devices = given;
    entropies = λ v. goes_on_octets (spelled v (kept_table views)) (entropies v) (spelled_octets v (kept_table views) table_ranged) (told v);
  }
