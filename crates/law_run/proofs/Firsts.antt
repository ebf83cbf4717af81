-- The first application of a name is the same in all facts of the name, and stays the same.
use Rattle.std.proofs.Common.{◌≡◌, ◌≢◌, ◌∙◌, ℕ, Bool, true, false, ◌&&◌, List, [], ◌∷◌, cond, refl, sym, ap, subst, Option, Some, None, inl, inr}
use Rattle.std.specs.Prelude.{◌==◌, filter, find}
use Rattle.qkd_base.specs.Name.{Name, name_eq}
use Rattle.net_model.specs.declared.fact.Fact.{Fact}
use Rattle.net_model.specs.declared.fact.Fact.TheVariants.{Key, Chunk, Stored, Open, Joined, Part}
use Rattle.net_model.specs.Table.{PartOf, part_of, is_named, is_part_of, name_of, fact_at, has_fact, sae_at}
use Rattle.net_model.specs.World.{World}
use Rattle.net_model.specs.Knowledge.{IsGroups}
use Rattle.net_model.specs.Handings.{is_single}
use Rattle.net_model.specs.Deliveries.{Delivery, is_of_name}
use Rattle.run_model.specs.Left.{is_first_of, first_in, is_to_first}
use Rattle.law_base.proofs.Base.{name_eq_from, eq_from, eq_same, and_right, or_cases, not_false, not_both}
use Rattle.law_base.proofs.Tables.{found_name, is_some_of_some}
use Rattle.law_base.proofs.Grow.{Grows, sae_grows}
use Rattle.law_run.proofs.Singles.{NamesDiffer, found_here, found_later}

-- The table has a fact of this name, whose first application is this one.
pub record HasFirst (T : List Fact) (n : Name) (sae : ℕ) : Type 0 where
  pub name : Name
  pub fact : Fact
  pub there : fact_at T name ≡ Some fact
  pub is : is_of_name n fact ≡ true
  pub first : sae_at T true fact ≡ Some sae

-- The table has a fact of this name, whose first application is another one.
pub record HasOther (T : List Fact) (n : Name) (sae : ℕ) : Type 0 where
  pub other : ℕ
  pub has : HasFirst T n other
  pub apart : other ≢ sae

pub first_grows : (T T' : List Fact) (n : Name) (sae : ℕ) → Grows T T' → HasFirst T n sae → HasFirst T' n sae
first_grows T T' n sae grows h =
    record {
      name = h.name;
      fact = h.fact;
      there = grows h.name h.fact h.there;
      is = h.is;
      first = sae_grows T T' (λ v. []) (λ v. []) grows (λ v m e. e) true h.fact sae h.first;
    }

pub other_grows : (T T' : List Fact) (n : Name) (sae : ℕ) → Grows T T' → HasOther T n sae → HasOther T' n sae
other_grows T T' n sae grows h = record { other = h.other; has = first_grows T T' n h.other grows h.has; apart = h.apart }

-- All facts of a name have the same first application.

part_first : (T : List Fact) (f : Fact) (p : PartOf) → part_of f ≡ Some p → sae_at T true f ≡ Some p.master
part_first T (Part name key master slave route bytes) p h = ap master_in h
  where
    master_in : Option PartOf → Option ℕ
    master_in None = None
    master_in (Some q) = Some q.master
part_first T (Key name master slave route bytes) p h = cc
part_first T (Chunk name stream index route bytes) p h = cc
part_first T (Stored note about route) p h = cc
part_first T (Open stream source peer size route) p h = cc
part_first T (Joined note about route) p h = cc

part_is : (n : Name) (f : Fact) (o : Option PartOf) → part_of f ≡ o → is_named o n ≡ true → (q : PartOf) × (part_of f ≡ Some q) × (q.key ≡ n)
part_is n f None e h = cc
part_is n f (Some q) e h = (q, e, name_eq_from q.key n h)

some_same : {A : Type 0} (x y : A) → Some x ≡ Some y → x ≡ y
some_same x y e = cc

module _ (T : List Fact) (groups : IsGroups T) (n : Name) where
  -- No fact has the name of a group key.
  not_both_kinds : {A : Type 0} (k m : Name) (f g : Fact) → fact_at T k ≡ Some f → (is_single f && name_eq (name_of f) n) ≡ true → fact_at T m ≡ Some g → is_part_of n g ≡ true → A
  not_both_kinds k m f g at one at' part =
      let same : k ≡ n = sym (found_name T k f at) ∙ name_eq_from (name_of f) n (and_right (is_single f) (name_eq (name_of f) n) one) in
      let q = part_is n g (part_of g) refl part in
      absurd (not_both (has_fact T n) (is_some_of_some (fact_at T n) f (ap (fact_at T) (sym same) ∙ at)) (ap (has_fact T) (sym q.2) ∙ groups.free m g q.0 at' q.1))

  pub same_first : (sae : ℕ) → HasFirst T n sae → (m : Name) (g : Fact) → fact_at T m ≡ Some g → is_of_name n g ≡ true → sae_at T true g ≡ Some sae
  same_first sae h m g at is =
      elim (or_cases (is_single h.fact && name_eq (name_of h.fact) n) (is_part_of n h.fact) h.is) [
        | inl one ↦ elim (or_cases (is_single g && name_eq (name_of g) n) (is_part_of n g) is) [
          | inl same ↦
              let a : h.name ≡ n = sym (found_name T h.name h.fact h.there) ∙ name_eq_from (name_of h.fact) n (and_right (is_single h.fact) (name_eq (name_of h.fact) n) one) in
              let b : m ≡ n = sym (found_name T m g at) ∙ name_eq_from (name_of g) n (and_right (is_single g) (name_eq (name_of g) n) same) in
              let e : h.fact ≡ g = some_same h.fact g (sym h.there ∙ ap (fact_at T) (a ∙ sym b) ∙ at) in
              subst (λ (f : Fact). sae_at T true f ≡ Some sae) e h.first
          | inr part ↦ not_both_kinds h.name m h.fact g h.there one at part
        ]
        | inr part ↦ elim (or_cases (is_single g && name_eq (name_of g) n) (is_part_of n g) is) [
          | inl one ↦ not_both_kinds m h.name g h.fact at one h.there part
          | inr other ↦
              let p = part_is n h.fact (part_of h.fact) refl part in
              let q = part_is n g (part_of g) refl other in
              let e : p.0.master ≡ q.0.master = (groups.alike h.name m h.fact g p.0 q.0 h.there at p.1 q.1 (p.2 ∙ sym q.2)).master in
              part_first T g q.0 q.1 ∙ ap (λ (x : ℕ). Some x) (sym e) ∙ sym (part_first T h.fact p.0 p.1) ∙ h.first
        ]
      ]

-- Whether the facts of a name have this first application.

first_all : (T xs : List Fact) (p q : Fact → Bool) (g : Fact) (sae : ℕ) (b : Bool) →
    ((f : Fact) → fact_at xs (name_of f) ≡ Some f → p f ≡ true → is_first_of (sae_at T true f) sae ≡ b) → NamesDiffer xs → find q xs ≡ Some g → p g ≡ true →
    first_in T (filter p xs) sae ≡ b
first_all T [] p q g sae b all differ found passes = cc
first_all T (x ∷ xs) p q g sae b all differ found passes =
    elim (p x) as (λ t. p x ≡ t → first_in T (cond t (x ∷ filter p xs) (filter p xs)) sae ≡ b) [
      | true ↦ λ e. all x (found_here x xs) e
      | false ↦ λ e. first_all T xs p q g sae b (λ f at k. all f (found_later x f xs differ.0 at) k) differ.1 (later e) passes
    ] refl
  where
    later : p x ≡ false → find q xs ≡ Some g
    later e = elim (q x) as (λ t. cond t (Some x) (find q xs) ≡ Some g → find q xs ≡ Some g) [
      | true ↦ λ k. absurd (not_both (p g) passes (ap p (sym (some_same x g k)) ∙ e))
      | false ↦ λ k. k
    ] found

is_first : (o : Option ℕ) (sae : ℕ) → o ≡ Some sae → is_first_of o sae ≡ true
is_first o sae e = ap (λ (x : Option ℕ). is_first_of x sae) e ∙ eq_same sae

is_other : (o : Option ℕ) (other sae : ℕ) → o ≡ Some other → other ≢ sae → is_first_of o sae ≡ false
is_other o other sae e apart = ap (λ (x : Option ℕ). is_first_of x sae) e ∙ not_false (other == sae) (λ same. apart (eq_from other sae same))

-- The first fact of a name decides for all of them.
module _ (w : World) (d : Delivery) (groups : IsGroups w.durable.facts) (differ : NamesDiffer w.durable.facts) where
  abbrev T : List Fact
  T = w.durable.facts

  pub to_first : HasFirst w.durable.facts d.name d.sae → is_to_first w d ≡ true
  to_first h =
      first_all T T (is_of_name d.name) (λ f. name_eq (name_of f) h.name) h.fact d.sae true
      (λ f at is. is_first (sae_at T true f) d.sae (same_first T groups d.name d.sae h (name_of f) f at is)) differ h.there h.is

  pub to_other : HasOther w.durable.facts d.name d.sae → is_to_first w d ≡ false
  to_other h =
      first_all T T (is_of_name d.name) (λ f. name_eq (name_of f) h.has.name) h.has.fact d.sae false
      (λ f at is. is_other (sae_at T true f) h.other d.sae (same_first T groups d.name h.other h.has (name_of f) f at is) h.apart) differ h.has.there h.has.is
