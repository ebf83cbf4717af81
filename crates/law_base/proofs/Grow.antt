-- Clauses of the invariant that stay true when the table and the nodes' knowledge grow.
use Rattle.std.proofs.Common.{◌≡◌, ℕ, suc, Bool, true, false, List, [], ◌∷◌, refl, ◌∙◌, ap, arith, Option, Some, None, inl, inr}
use Rattle.std.specs.Prelude.{slice_get}
use Rattle.qkd_base.specs.Name.{Name, has}
use Rattle.net_model.specs.declared.fact.Fact.{Fact}
use Rattle.net_model.specs.declared.fact.Fact.TheVariants.{Key, Chunk, Part}
use Rattle.net_model.specs.Table.{route_of, fact_at, sae_at, stream_end}
use Rattle.net_model.specs.Item.{Item, DataItem, AckItem, need}
use Rattle.net_model.specs.Site.{Site}
use Rattle.net_model.specs.World.{Allocation, Transmission, Owner, needs}
use Rattle.net_model.specs.Ownership.{covers, IsOwned, HasRoom}
use Rattle.net_model.specs.Knowledge.{IsOpenBetween, IsEntitled, PredecessorKnows, KnownOnRoute, IsAdjacent, MayCarry, IsCarried, IsTargetOf}
use Rattle.net_model.specs.Handings.{KnowsStored, MayHaveOne, MayHaveGroup, MayHave, IsPart}

abbrev pub Grows : List Fact → List Fact → Type 0
Grows T T' = (n : Name) (f : Fact) → fact_at T n ≡ Some f → fact_at T' n ≡ Some f

abbrev pub KnownGrows : (ℕ → List Name) → (ℕ → List Name) → Type 0
KnownGrows known known' = (u : ℕ) (n : Name) → has (known u) n ≡ true → has (known' u) n ≡ true

module _ (T T' : List Fact) (known known' : ℕ → List Name) (grows : Grows T T') (more : KnownGrows known known') where
  pub source_grows : (v : ℕ) (n : Name) (route : List ℕ) → PredecessorKnows known v n route → PredecessorKnows known' v n route
  source_grows v n route h = elim h [ inl e ↦ inl e | inr (u, e, k) ↦ inr (u, e, more u n k) ]

  pub known_grows : (v : ℕ) (n : Name) → KnownOnRoute T known v n → KnownOnRoute T' known' v n
  known_grows v n h = record { fact = h.fact; there = grows n h.fact h.there; on = h.on; source = source_grows v n (route_of h.fact) h.source }

  pub adjacent_grows : (k u v : ℕ) (n : Name) → IsAdjacent T known k u v n → IsAdjacent T' known' k u v n
  adjacent_grows k u v n h = record { fact = h.fact; there = grows n h.fact h.there; next = h.next; knows = more k n h.knows }

  pub carry_grows : (from to : ℕ) (i : Item) → MayCarry T known from to i → MayCarry T' known' from to i
  carry_grows from to (DataItem n) h = adjacent_grows from from to n h
  carry_grows from to (AckItem n) h = adjacent_grows from to from n h

  pub need_grows : (from to : ℕ) (i : Item) → MayCarry T known from to i → need T' i ≡ need T i
  need_grows from to (DataItem n) h = rw (h.there, grows n h.fact h.there) refl
  need_grows from to (AckItem n) h = refl

  pub stored_grows : (v : ℕ) (n : Name) → KnowsStored T (known v) n → KnowsStored T' (known' v) n
  stored_grows v n h = record { note = h.note; fact = h.fact; there = grows h.note h.fact h.there; about = h.about; knows = more v h.note h.knows }

  open_grows : (nodes : List ℕ) (s : Name) (o : Option Fact) → fact_at T s ≡ o → IsOpenBetween nodes o → IsOpenBetween nodes (fact_at T' s)
  open_grows nodes s None e h = absurd h
  open_grows nodes s (Some f) e h = rw (grows s f e) h

  pub entitled_grows : (s : Site) (f : Fact) → IsEntitled s T f → IsEntitled s T' f
  entitled_grows s (Chunk name stream index route bytes) h = open_grows route stream (fact_at T stream) refl h
  entitled_grows s _ h = h

  pub target_grows : (v : ℕ) (n : Name) (o : Option Fact) → fact_at T n ≡ o → IsTargetOf v o → IsTargetOf v (fact_at T' n)
  target_grows v n None e h = absurd h
  target_grows v n (Some f) e h = rw (grows n f e) h

  -- The application at an end of a stream stays the same once it is known.
  stream_end_grows : (at_first : Bool) (n : Name) (sae : ℕ) (o : Option Fact) → fact_at T n ≡ o → stream_end at_first o ≡ Some sae →
      stream_end at_first (fact_at T' n) ≡ Some sae
  stream_end_grows at_first n sae None e h = cc
  stream_end_grows at_first n sae (Some f) e h = ap (stream_end at_first) (grows n f e) ∙ h

  pub sae_grows : (at_first : Bool) (f : Fact) (sae : ℕ) → sae_at T at_first f ≡ Some sae → sae_at T' at_first f ≡ Some sae
  sae_grows at_first (Chunk name stream index route bytes) sae h = stream_end_grows at_first stream sae (fact_at T stream) refl h
  sae_grows at_first (Key name master slave route bytes) sae h = h
  sae_grows at_first (Part name key master slave route bytes) sae h = h
  sae_grows at_first _ sae h = cc

  one_grows : (s : Site) (n : Name) (sae : ℕ) → MayHaveOne s T known n sae → MayHaveOne s T' known' n sae
  one_grows s n sae h =
      record {
        fact = h.fact;
        there = grows n h.fact h.there;
        single = h.single;
        knows = more (s.home sae) n h.knows;
        is_end = elim h.is_end [
          | inl (e, k) ↦ inl (sae_grows true h.fact sae e, stored_grows (s.home sae) n k)
          | inr e ↦ inr (sae_grows false h.fact sae e)
        ];
      }

  -- The group key got no new part.
  abbrev pub NoNewPart : Name → Type 0
  NoNewPart n = (p : Name) → IsPart T' n p → IsPart T n p

  -- If this application is the master of one of the group key's parts, the key got no new part.
  abbrev pub NoNewPartOf : Name → ℕ → Type 0
  NoNewPartOf n sae = (m : Name) (x : IsPart T n m) → x.part.master ≡ sae → NoNewPart n

  group_grows : (s : Site) (n : Name) (sae : ℕ) → NoNewPartOf n sae → MayHaveGroup s T known n sae → MayHaveGroup s T' known' n sae
  group_grows s n sae fewer h =
      record {
        name = h.name;
        one = record { fact = h.one.fact; part = h.one.part; there = grows h.name h.one.fact h.one.there; is = h.one.is; key = h.one.key };
        is_end = elim h.is_end [
          | inl (e, all) ↦ inl (e, λ p x. let r = all p (fewer h.name h.one e p x) in (more (s.home sae) p r.0, stored_grows (s.home sae) p r.1))
          | inr (e, k) ↦ inr (e, more (s.home sae) h.name k)
        ];
      }

  pub have_grows : (s : Site) (n : Name) (sae : ℕ) → NoNewPartOf n sae → MayHave s T known n sae → MayHave s T' known' n sae
  have_grows s n sae fewer h = elim h [ inl x ↦ inl (one_grows s n sae x) | inr x ↦ inr (group_grows s n sae fewer x) ]

  covers_grows : (from to : ℕ) (x : ℕ) (o : Option Allocation) → ((c : Allocation) → o ≡ Some c → MayCarry T known from to c.item) → covers T o x ≡ covers T' o x
  covers_grows from to x None h = refl
  covers_grows from to x (Some c) h = rw (need_grows from to c.item (h c refl)) refl

  pub owned_grows : (from to : ℕ) (own : List Owner) (frames : List Allocation) (orders : List Transmission) (got : ℕ) →
      IsCarried T known from to frames orders → IsOwned T own frames got → IsOwned T' own frames got
  owned_grows from to own frames orders got c o =
      record { frame = λ x j. o.frame x j ∙ covers_grows from to x (slice_get frames j) (λ d e. c.framed j d e); key = o.key; reach = o.reach }

  pub needs_grows : (from to : ℕ) (os : List Transmission) → ((j : ℕ) (w : Transmission) → slice_get os j ≡ Some w → MayCarry T known from to w.item) →
      needs T' os ≡ needs T os
  needs_grows from to [] h = refl
  needs_grows from to (o ∷ os) h =
      let first = need_grows from to o.item (h 0 o refl) in
      let rest = needs_grows from to os (λ j w e. h (suc j) w e) in
      omega (arith, first, rest)

  pub room_grows : (from to : ℕ) (own : List Owner) (frames : List Allocation) (orders : List Transmission) (lease got : ℕ) →
      IsCarried T known from to frames orders → HasRoom T own orders lease got → HasRoom T' own orders lease got
  room_grows from to own frames orders lease got c r =
      record { planned = omega (arith, r.planned, needs_grows from to orders c.wanted); leased = r.leased }

  pub carried_grows : (from to : ℕ) (frames : List Allocation) (orders : List Transmission) →
      IsCarried T known from to frames orders → IsCarried T' known' from to frames orders
  carried_grows from to frames orders c =
      record { framed = λ j d e. carry_grows from to d.item (c.framed j d e); wanted = λ j d e. carry_grows from to d.item (c.wanted j d e) }
