-- Each secret of the kept world has a place in its maker's entropy, and those of different names don't overlap.
use Rattle.std.proofs.Common.{◌≡◌, ◌≢◌, ℕ, ◌+◌, ◌≤◌, Bool, true, false, ◌&&◌, List, [], ◌∷◌, ◌++◌, length, length-append, append_assoc, refl, sym, ◌∙◌, ap, arith, Option, Some, None, inl, inr, ◌⊎◌}
use Rattle.std.specs.Prelude.{if◌then◌else◌, find}
use Rattle.std.specs.List.{AllByRecursion}
use Rattle.qkd_base.specs.Name.{Name, name_eq}
use Rattle.net_model.specs.declared.fact.Fact.{Fact}
use Rattle.net_model.specs.Table.{PartOf, part_of, name_of, origin, is_secret, bytes_of, fact_at}
use Rattle.net_model.specs.OctetSequence.{OctetSequence, octets_from}
use Rattle.net_model.specs.Sealing.{Sealing}
use Rattle.net_model.specs.Site.{Site}
use Rattle.net_model.specs.View.{View}
use Rattle.net_model.specs.World.{Journal}
use Rattle.law_base.proofs.Base.{name_eq_from, name_eq_same, and_left, and_right, and_both, not_false}
use Rattle.law_base.proofs.Lists.{found_at, all_at}
use Rattle.law_base.proofs.Seen.{some_found, found_passes}
use Rattle.law_base.proofs.Tables.{found_name}
use Rattle.law_invariant.specs.HandedName.{handed_name, AreApart}
use Rattle.law_locality.proofs.Lists.{all_weaker, all_mapped}
use Rattle.law_safety.specs.Places.{IsAtPlace, ArePlaced}
use Rattle.law_lives.specs.Belongs.{facts_in, table_in, Belongs}
use Rattle.law_lives.specs.KeptWorld.{kept_fact, kept_table, bytes_from, spelled, goes_on, kept_durable, kept_network, kept_world}
use Rattle.law_lives.proofs.KeptFacts.{AllRead, kept_name, kept_there}
use Rattle.law_lives.proofs.KeptKnowledge.{table_kept, groups_kept}
use Rattle.law_lives.proofs.KeptSecrets.{own_bytes, middle_octets}
use Rattle.law_lives.proofs.KeptTables.{some_of, firsts_found}
use Rattle.law_lives.proofs.LikeFacts.{key_or, handed_is}
use Rattle.law_lives.proofs.LikeTables.{same_secret}

-- ---- the place of a name's first secret

-- The fact is a secret that is handed out under this name.
abbrev is_as : Name → Fact → Bool
is_as m f = is_secret f && name_eq (handed_name f) m

-- how many octets of node v come before the first secret of this name
abbrev pub first_place : ℕ → Name → List Fact → ℕ
first_place v m [] = 0
first_place v m (f ∷ fs) = if is_as m f then 0 else length (bytes_from v f) + first_place v m fs

record IsFirst (v : ℕ) (m : Name) (fs : List Fact) (f : Fact) : Type 0 where
  before : List ℕ
  after : List ℕ
  is : spelled v fs ≡ before ++ (bytes_from v f ++ after)
  place : length before ≡ first_place v m fs

first_is : (v : ℕ) (m : Name) (fs : List Fact) (f : Fact) → find (is_as m) fs ≡ Some f → IsFirst v m fs f
first_is v m [] f h = cc
first_is v m (x ∷ fs) f h =
    elim (is_as m x) as (λ t. is_as m x ≡ t → (if t then Some x else find (is_as m) fs) ≡ Some f → IsFirst v m (x ∷ fs) f) [
      | true ↦ λ e k.
          let is : x ≡ f = cc in
          record {
            before = [];
            after = spelled v fs;
            is = ap (λ (y : Fact). bytes_from v y ++ spelled v fs) is;
            place = sym (ap (λ (t : Bool). if t then 0 else length (bytes_from v x) + first_place v m fs) e);
          }
      | false ↦ λ e k.
          let r = first_is v m fs f k in
          let count = length-append (bytes_from v x) r.before in
          let place = r.place in
          record {
            before = bytes_from v x ++ r.before;
            after = r.after;
            is = ap (λ (bs : List ℕ). bytes_from v x ++ bs) r.is ∙ sym (append_assoc (bytes_from v x) r.before (bytes_from v f ++ r.after));
            place = count ∙ ap (λ (n : ℕ). length (bytes_from v x) + n) place ∙ sym (ap (λ (t : Bool). if t then 0 else length (bytes_from v x) + first_place v m fs) e);
          }
    ] refl h

-- The first secrets of two names don't overlap.
places_apart : (v : ℕ) (m k : Name) → m ≢ k → (fs : List Fact) (f g : Fact) → find (is_as m) fs ≡ Some f → find (is_as k) fs ≡ Some g →
    (first_place v m fs + length (bytes_from v f) ≤ first_place v k fs) ⊎ (first_place v k fs + length (bytes_from v g) ≤ first_place v m fs)
places_apart v m k apart [] f g h h2 = cc
places_apart v m k apart (x ∷ fs) f g h h2 =
    elim (is_as m x) as (λ t. is_as m x ≡ t → (if t then Some x else find (is_as m) fs) ≡ Some f →
    ((if t then 0 else length (bytes_from v x) + first_place v m fs) + length (bytes_from v f) ≤ first_place v k (x ∷ fs)) ⊎
    (first_place v k (x ∷ fs) + length (bytes_from v g) ≤ (if t then 0 else length (bytes_from v x) + first_place v m fs))) [
      | true ↦ λ e y.
          let is : x ≡ f = cc in
          let count : length (bytes_from v x) ≡ length (bytes_from v f) = ap (λ (z : Fact). length (bytes_from v z)) is in
          let behind : first_place v k (x ∷ fs) ≡ length (bytes_from v x) + first_place v k fs =
          ap (λ (t : Bool). if t then 0 else length (bytes_from v x) + first_place v k fs) (other x e) in
          inl (omega (arith, count, behind))
      | false ↦ λ e y. elim (is_as k x) as (λ t. is_as k x ≡ t → (if t then Some x else find (is_as k) fs) ≡ Some g →
          ((length (bytes_from v x) + first_place v m fs) + length (bytes_from v f) ≤ (if t then 0 else length (bytes_from v x) + first_place v k fs)) ⊎
          ((if t then 0 else length (bytes_from v x) + first_place v k fs) + length (bytes_from v g) ≤ length (bytes_from v x) + first_place v m fs)) [
            | true ↦ λ e2 z.
                let is : x ≡ g = cc in
                let count : length (bytes_from v x) ≡ length (bytes_from v g) = ap (λ (q : Fact). length (bytes_from v q)) is in
                inr (omega (arith, count))
            | false ↦ λ e2 z. elim (places_apart v m k apart fs f g y z) [ inl less ↦ inl (omega (arith, less)) | inr less ↦ inr (omega (arith, less)) ]
          ] refl h2
    ] refl h
  where
    other : (z : Fact) → is_as m z ≡ true → is_as k z ≡ false
    other z e = not_false (is_as k z) (λ e2.
        apart (sym (name_eq_from (handed_name z) m (and_right (is_secret z) (name_eq (handed_name z) m) e)) ∙ name_eq_from (handed_name z) k (and_right (is_secret z) (name_eq (handed_name z) k) e2)))

-- ---- the kept table

module _ (s : Site) (devices : ℕ → OctetSequence) (views : List View) (read : AllRead views) (b : Belongs s devices views) where
  abbrev kept : List Fact
  kept = kept_table views

  all_kept_found : AllByRecursion (λ (x : Fact). fact_at kept (name_of x) ≡ Some x) kept
  unfolding kept_table
  all_kept_found =
      all_mapped (λ (x : Fact). fact_at (kept_table views) (name_of x) ≡ Some x) (kept_fact views) (table_in views)
      (all_weaker (λ (y : Fact). fact_at (table_in views) (name_of y) ≡ Some y) (λ (y : Fact). fact_at (kept_table views) (name_of (kept_fact views y)) ≡ Some (kept_fact views y))
      (λ y h. ap (fact_at (kept_table views)) (kept_name views y) ∙ kept_there views (name_of y) y h) (table_in views) (firsts_found (facts_in views)))

  kept_found : (p : Fact → Bool) (x : Fact) → find p kept ≡ Some x → fact_at kept (name_of x) ≡ Some x
  kept_found p x h = let at = found_at p kept x h in all_at (λ (y : Fact). fact_at kept (name_of y) ≡ Some y) kept at.0 x all_kept_found at.1

  -- The name under which bytes are handed out is their maker's.
  maker_with : (n : Name) (f : Fact) (o : Option PartOf) → fact_at kept n ≡ Some f → part_of f ≡ o → (key_or n o).node ≡ origin f
  maker_with n f None h is = (table_kept s devices views read b n f h).maker
  maker_with n f (Some p) h is = ((groups_kept s devices views read b).own n f p h is).0

  maker_is : (n : Name) (f : Fact) → fact_at kept n ≡ Some f → (handed_name f).node ≡ origin f
  maker_is n f h = ap (λ (k : Name). k.node) (handed_is f ∙ ap (λ (k : Name). key_or k (part_of f)) (found_name kept n f h)) ∙ maker_with n f (part_of f) h refl

  -- The first secret of a fact's name, with the fact's bytes.
  record IsFirstOf (f : Fact) : Type 0 where
    first : Fact
    found : find (is_as (handed_name f)) kept ≡ Some first
    bytes : bytes_from (origin f) first ≡ bytes_of f

  first_of_name : (n : Name) (f : Fact) → fact_at kept n ≡ Some f → is_secret f ≡ true → IsFirstOf f
  first_of_name n f h secret =
      let m : Name = handed_name f in
      let passes : is_as (handed_name f) f ≡ true = and_both (is_secret f) (name_eq (handed_name f) (handed_name f)) secret (name_eq_same (handed_name f)) in
      let r = some_of (find (is_as (handed_name f)) kept) (some_found (is_as (handed_name f)) (λ y. name_eq (name_of y) n) kept f h passes) in
      let x : Fact = r.0 in
      let there = kept_found (is_as (handed_name f)) x r.1 in
      let as' = found_passes (is_as (handed_name f)) kept x r.1 in
      let secret2 : is_secret x ≡ true = and_left (is_secret x) (name_eq (handed_name x) (handed_name f)) as' in
      let named : handed_name x ≡ handed_name f = name_eq_from (handed_name x) (handed_name f) (and_right (is_secret x) (name_eq (handed_name x) (handed_name f)) as') in
      let from : origin x ≡ origin f = sym (maker_is (name_of x) x there) ∙ ap (λ (k : Name). k.node) named ∙ maker_is n f h in
      record {
        first = x;
        found = r.1;
        bytes = ap (λ (v : ℕ). bytes_from v x) (sym from) ∙ own_bytes x secret2 ∙ same_secret kept (groups_kept s devices views read b) (name_of x) n x f there h named;
      }

  abbrev place : Name → ℕ
  place m = first_place m.node m kept

  module _ (sealing : Sealing) (entropies : ℕ → OctetSequence) (journals : ℕ → Journal) where
    at_place : (n : Name) (f : Fact) → fact_at kept n ≡ Some f → is_secret f ≡ true →
        IsAtPlace (kept_network s sealing devices entropies views) (λ v. length (spelled v kept)) place f
    at_place n f h secret =
        let x = first_of_name n f h secret in
        let r = first_is (origin f) (handed_name f) kept x.first x.found in
        let is : spelled (origin f) kept ≡ r.before ++ (bytes_of f ++ r.after) = r.is ∙ ap (λ (bs : List ℕ). r.before ++ (bs ++ r.after)) x.bytes in
        let all : length (spelled (origin f) kept) ≡ length r.before + (length (bytes_of f) + length r.after) =
        ap length is ∙ length-append r.before _ ∙ ap (λ (k : ℕ). length r.before + k) (length-append (bytes_of f) r.after) in
        let here : length r.before ≡ place (handed_name f) = r.place ∙ ap (λ (v : ℕ). first_place v (handed_name f) kept) (sym (maker_is n f h)) in
        record {
          bytes = sym (middle_octets (spelled (origin f) kept) r.before (bytes_of f) r.after (entropies (origin f)) is) ∙
              ap (λ (k : ℕ). octets_from (goes_on (spelled (origin f) kept) (entropies (origin f))).octet k (length (bytes_of f))) here;
          within = omega (arith, all, here);
        }

    places_differ : (n m : Name) (f g : Fact) → fact_at kept n ≡ Some f → fact_at kept m ≡ Some g → is_secret f ≡ true → is_secret g ≡ true → origin f ≡ origin g →
        handed_name f ≢ handed_name g → AreApart place f g
    places_differ n m f g at at2 secret secret2 from apart =
        let x = first_of_name n f at secret in
        let y = first_of_name m g at2 secret2 in
        let v : ℕ = origin f in
        let here : first_place (origin f) (handed_name f) kept ≡ place (handed_name f) = ap (λ (u : ℕ). first_place u (handed_name f) kept) (sym (maker_is n f at)) in
        let here2 : first_place (origin f) (handed_name g) kept ≡ place (handed_name g) = ap (λ (u : ℕ). first_place u (handed_name g) kept) (from ∙ sym (maker_is m g at2)) in
        let count : length (bytes_from (origin f) x.first) ≡ length (bytes_of f) = ap length x.bytes in
        let count2 : length (bytes_from (origin f) y.first) ≡ length (bytes_of g) = ap (λ (u : ℕ). length (bytes_from u y.first)) from ∙ ap length y.bytes in
        elim (places_apart (origin f) (handed_name f) (handed_name g) apart kept x.first y.first x.found y.found) [
          | inl less ↦ inl (omega (arith, less, here, here2, count))
          | inr less ↦ inr (omega (arith, less, here, here2, count2))
        ]

    pub are_placed : ArePlaced (kept_network s sealing devices entropies views) (kept_world s views journals)
    unfolding kept_world kept_durable
    are_placed = record { place = place; each = at_place; apart = places_differ }
