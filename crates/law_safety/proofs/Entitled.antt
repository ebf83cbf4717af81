-- An application that was handed a key is entitled to it.
use Rattle.std.proofs.Common.{◌≡◌, ℕ, true, false, ◌&&◌, List, refl, sym, ◌∙◌, ap, subst, Option, Some, inl, inr}
use Rattle.qkd_base.specs.Name.{Name, name_eq, has}
use Rattle.qkd_base.specs.Route.{first_of, last_of}
use Rattle.net_model.specs.declared.fact.Fact.{Fact}
use Rattle.net_model.specs.declared.fact.Fact.TheVariants.{Key, Chunk, Open, Part}
use Rattle.net_model.specs.Table.{PartOf, part_of, is_part_of, name_of, route_of, fact_at, was_handed, sae_at, stream_end}
use Rattle.net_model.specs.Site.{Site}
use Rattle.net_model.specs.World.{Network, World}
use Rattle.net_model.specs.Knowledge.{IsEntitled, IsOpenBetween, IsTable, IsGroups}
use Rattle.net_model.specs.Handings.{is_single, KnowsStored, IsPart, MayHaveOne, MayHaveGroup}
use Rattle.net_model.specs.Invariant.{Conserved}
use Rattle.law_base.proofs.Base.{name_eq_same, or_left, or_right, or_cases, and_both}
use Rattle.law_base.proofs.Tables.{found_name}
use Rattle.run_model.specs.Keys.{AreConfirmed, IsEntitled as MayHaveIt}
use Rattle.law_safety.proofs.ConservedNames.{single_is, a_part, no_fact_has_it}

-- The two applications of a key, a chunk or a part.
record Pair (s : Site) (T : List Fact) (f : Fact) : Type 0 where
  first : ℕ
  last : ℕ
  is_first : sae_at T true f ≡ Some first
  is_last : sae_at T false f ≡ Some last
  allowed : s.allowed first last ≡ true
  from : first_of (route_of f) ≡ s.home first
  to : last_of (route_of f) ≡ s.home last

some_is : {A : Type 0} {a b : A} → Some a ≡ Some b → a ≡ b
some_is h = cc

chunk_pair : (s : Site) (T : List Fact) (known : ℕ → List Name) → IsTable s T known → (name stream : Name) (index : ℕ) (route bytes : List ℕ) (o : Option Fact) →
    fact_at T stream ≡ o → IsOpenBetween route o → Pair s T (Chunk name stream index route bytes)
chunk_pair s T known t name stream index route bytes (Some (Open other source peer size nodes)) e h =
    let x : IsEntitled s T (Open other source peer size nodes) = (t stream (Open other source peer size nodes) e).entitled in
    record {
      first = source;
      last = peer;
      is_first = ap (stream_end true) e;
      is_last = ap (stream_end false) e;
      allowed = x.allowed;
      from = h.0 ∙ x.from;
      to = h.1 ∙ x.to;
    }
chunk_pair s T known t name stream index route bytes _ e h = absurd h

pair_of : (s : Site) (T : List Fact) (known : ℕ → List Name) → IsTable s T known → (f : Fact) → is_single f ≡ true → IsEntitled s T f → Pair s T f
pair_of s T known t (Key name master slave route bytes) one x =
    record { first = master; last = slave; is_first = refl; is_last = refl; allowed = x.allowed; from = x.from; to = x.to }
pair_of s T known t (Chunk name stream index route bytes) one x = chunk_pair s T known t name stream index route bytes (fact_at T stream) refl x
pair_of s T known t _ one x = cc

-- The only fact of a key's or chunk's name is the key or chunk itself.
one_confirmed : (T : List Fact) → IsGroups T → (n : Name) (f : Fact) (known : List Name) → fact_at T n ≡ Some f → name_of f ≡ n → KnowsStored T known n → AreConfirmed T known n
one_confirmed T groups n f known there named stored m g at is = elim (or_cases (is_single g && name_eq (name_of g) n) (is_part_of n g) is) [
  | inl one ↦ subst (λ (x : Name). KnowsStored T known x) (sym (single_is n g one) ∙ found_name T m g at) stored
  | inr part ↦ absurd (no_fact_has_it T groups n m n g f at there part named)
]

one_end : (s : Site) (T : List Fact) (known : ℕ → List Name) → IsTable s T known → IsGroups T → (n : Name) (sae : ℕ) → MayHaveOne s T known n sae → MayHaveIt s T known n sae
one_end s T known t groups n sae h =
    let p = pair_of s T known t h.fact h.single (t n h.fact h.there).entitled in
    let named : name_of h.fact ≡ n = found_name T n h.fact h.there in
    record {
      name = n;
      fact = h.fact;
      there = h.there;
      is = or_left _ _ (and_both (is_single h.fact) (name_eq (name_of h.fact) n) h.single (ap (λ (m : Name). name_eq m n) named ∙ name_eq_same n));
      first = p.first;
      last = p.last;
      is_first = p.is_first;
      is_last = p.is_last;
      allowed = p.allowed;
      from = p.from;
      to = p.to;
      one = elim h.is_end [
        | inl x ↦ inl (some_is (sym p.is_first ∙ x.0), one_confirmed T groups n h.fact (known (s.home sae)) h.there named x.1)
        | inr x ↦ inr (some_is (sym p.is_last ∙ x))
      ];
      knows = h.knows;
    }

-- The group key and the two applications that a part names.
record PartEnds (s : Site) (T : List Fact) (f : Fact) (p : PartOf) : Type 0 where
  is_first : sae_at T true f ≡ Some p.master
  is_last : sae_at T false f ≡ Some p.slave
  allowed : s.allowed p.master p.slave ≡ true
  from : first_of (route_of f) ≡ s.home p.master
  to : last_of (route_of f) ≡ s.home p.slave
  is : is_part_of p.key f ≡ true

part_ends : (s : Site) (T : List Fact) (f : Fact) (p : PartOf) → part_of f ≡ Some p → IsEntitled s T f → PartEnds s T f p
part_ends s T (Part name key master slave route bytes) p e x =
    subst (λ (q : PartOf). PartEnds s T (Part name key master slave route bytes) q) (some_is e)
    (record { is_first = refl; is_last = refl; allowed = x.allowed; from = x.from; to = x.to; is = name_eq_same key })
part_ends s T _ p e x = cc

-- The facts of a group key's name are its parts.
group_confirmed : (s : Site) (T : List Fact) → IsGroups T → (n q : Name) (f : Fact) (known : List Name) → fact_at T q ≡ Some f → is_part_of n f ≡ true →
    ((p : Name) → IsPart T n p → (has known p ≡ true) × KnowsStored T known p) → AreConfirmed T known n
group_confirmed s T groups n q f known there part all m g at is = elim (or_cases (is_single g && name_eq (name_of g) n) (is_part_of n g) is) [
  | inl one ↦ absurd (no_fact_has_it T groups n q m f g there at part (single_is n g one))
  | inr other ↦ let x = a_part n g other in (all m (record { fact = g; part = x.part; there = at; is = x.is; key = x.key })).1
]

group_end : (s : Site) (T : List Fact) (known : ℕ → List Name) → IsTable s T known → IsGroups T → (n : Name) (sae : ℕ) (h : MayHaveGroup s T known n sae) → MayHaveIt s T known n sae
group_end s T known t groups n sae h =
    let x = part_ends s T h.one.fact h.one.part h.one.is (t h.name h.one.fact h.one.there).entitled in
    let is : is_part_of n h.one.fact ≡ true = ap (λ (m : Name). is_part_of m h.one.fact) (sym h.one.key) ∙ x.is in
    record {
      name = h.name;
      fact = h.one.fact;
      there = h.one.there;
      is = or_right _ _ is;
      first = h.one.part.master;
      last = h.one.part.slave;
      is_first = x.is_first;
      is_last = x.is_last;
      allowed = x.allowed;
      from = x.from;
      to = x.to;
      one = elim h.is_end [
        | inl y ↦ inl (y.0, group_confirmed s T groups n h.name h.one.fact (known (s.home sae)) h.one.there is y.1)
        | inr y ↦ inr y.0
      ];
      knows = elim h.is_end [ inl y ↦ (y.1 h.name h.one).0 | inr y ↦ y.1 ];
    }

pub handed_end : (net : Network) (w : World) → Conserved net w → (n : Name) (sae : ℕ) → was_handed w.durable.handed n sae ≡ true →
    MayHaveIt net.site w.durable.facts w.durable.known n sae
handed_end net w c n sae h = elim (c.now.handings.entitled n sae h) [
  | inl x ↦ one_end net.site w.durable.facts w.durable.known c.now.table c.now.groups n sae x
  | inr x ↦ group_end net.site w.durable.facts w.durable.known c.now.table c.now.groups n sae x
]
