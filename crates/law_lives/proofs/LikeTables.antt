-- Tables whose facts of one name differ at most in bytes: what may be said over the one may be said over the other.
use Rattle.std.proofs.Common.{◌≡◌, ℕ, Bool, true, false, List, refl, sym, ◌∙◌, ap, subst, Option, Some, None, inl, inr}
use Rattle.qkd_base.specs.Name.{Name, has}
use Rattle.qkd_base.specs.Route.{last_of, next_after}
use Rattle.net_model.specs.declared.fact.Fact.{Fact}
use Rattle.net_model.specs.declared.fact.Fact.TheVariants.{Key, Chunk, Stored, Open, Joined, Part}
use Rattle.net_model.specs.Table.{PartOf, part_of, route_of, is_secret, bytes_of, fact_at, has_fact, is_stored_about, stream_end, sae_at}
use Rattle.net_model.specs.Site.{Site}
use Rattle.net_model.specs.Knowledge.{IsOpenBetween, IsEntitled, IsAdjacent, IsTargetOf, IsGroups}
use Rattle.net_model.specs.Handings.{KnowsStored, is_single, MayHaveOne, IsPart, MayHaveGroup, MayHave}
use Rattle.law_base.proofs.Base.{not_both}
use Rattle.law_base.proofs.Tables.{found_name, is_some_of_some}
use Rattle.law_base.proofs.Masked.{IsBlind, route_blind, stored_blind}
use Rattle.law_lives.specs.KeptWorld.{with_bytes}
use Rattle.law_lives.proofs.LikeFacts.{AreAlike, alike_same, alike_is, secret_blind, key_or, handed_is, part_bytes, part_like}
use Rattle.law_invariant.specs.HandedName.{handed_name}

-- The table has a fact of this name that is like the fact.
pub record IsThere (T : List Fact) (n : Name) (f : Fact) : Type 0 where
  pub fact : Fact
  pub there : fact_at T n ≡ Some fact
  pub alike : AreAlike fact f

-- The second table has facts like all those of the first.
abbrev pub HasAll : List Fact → List Fact → Type 0
HasAll T U = (n : Name) (f : Fact) → fact_at T n ≡ Some f → IsThere U n f

pub single_blind : IsBlind is_single
single_blind (Key name master slave route bytes) = refl
single_blind (Chunk name stream index route bytes) = refl
single_blind (Stored note about route) = refl
single_blind (Open stream source peer size route) = refl
single_blind (Joined note about route) = refl
single_blind (Part name key master slave route bytes) = refl

module _ (T U : List Fact) (all : HasAll T U) where
  open_moves : (nodes : List ℕ) (stream : Name) (o : Option Fact) → fact_at T stream ≡ o → IsOpenBetween nodes o → IsOpenBetween nodes (fact_at U stream)
  open_moves nodes stream None e h = absurd h
  open_moves nodes stream (Some (Key name master slave route bytes)) e h = absurd h
  open_moves nodes stream (Some (Chunk name other index route bytes)) e h = absurd h
  open_moves nodes stream (Some (Stored note about route)) e h = absurd h
  open_moves nodes stream (Some (Joined note about route)) e h = absurd h
  open_moves nodes stream (Some (Part name key master slave route bytes)) e h = absurd h
  open_moves nodes stream (Some (Open name source peer size route)) e h =
      let k = all stream (Open name source peer size route) e in
      let is : Open name source peer size route ≡ k.fact = alike_is k.fact (Open name source peer size route) k.alike in
      subst (IsOpenBetween nodes) (sym (k.there ∙ ap (λ (x : Fact). Some x) (sym is))) h

  entitled_with : (s : Site) (g : Fact) (more : List ℕ) → IsEntitled s T g → IsEntitled s U (with_bytes g more)
  entitled_with s (Key name master slave route bytes) more h = h
  entitled_with s (Chunk name stream index route bytes) more h = open_moves route stream (fact_at T stream) refl h
  entitled_with s (Stored note about route) more h = h
  entitled_with s (Open stream source peer size route) more h = h
  entitled_with s (Joined note about route) more h = h
  entitled_with s (Part name key master slave route bytes) more h = h

  pub entitled_moves : (s : Site) (f g : Fact) → AreAlike f g → IsEntitled s T g → IsEntitled s U f
  entitled_moves s f g h e = subst (IsEntitled s U) (alike_is f g h) (entitled_with s g (bytes_of f) e)

  pub target_moves : (v : ℕ) (n : Name) (o : Option Fact) → fact_at T n ≡ o → IsTargetOf v o → IsTargetOf v (fact_at U n)
  target_moves v n None e h = absurd h
  target_moves v n (Some f) e h =
      let t = all n f e in
      subst (IsTargetOf v) (sym t.there) (
        alike_same is_secret secret_blind t.fact f t.alike ∙ h.0,
        ap last_of (alike_same route_of route_blind t.fact f t.alike) ∙ h.1,
      )

  stream_moves : (at_first : Bool) (stream : Name) (sae : ℕ) (o : Option Fact) → fact_at T stream ≡ o → stream_end at_first o ≡ Some sae →
      stream_end at_first (fact_at U stream) ≡ Some sae
  stream_moves at_first stream sae None e h = cc
  stream_moves at_first stream sae (Some (Key name master slave route bytes)) e h = cc
  stream_moves at_first stream sae (Some (Chunk name other index route bytes)) e h = cc
  stream_moves at_first stream sae (Some (Stored note about route)) e h = cc
  stream_moves at_first stream sae (Some (Joined note about route)) e h = cc
  stream_moves at_first stream sae (Some (Part name key master slave route bytes)) e h = cc
  stream_moves at_first stream sae (Some (Open name source peer size route)) e h =
      let k = all stream (Open name source peer size route) e in
      let is : Open name source peer size route ≡ k.fact = alike_is k.fact (Open name source peer size route) k.alike in
      ap (stream_end at_first) (k.there ∙ ap (λ (x : Fact). Some x) (sym is)) ∙ h

  sae_with : (at_first : Bool) (f : Fact) (more : List ℕ) (sae : ℕ) → sae_at T at_first f ≡ Some sae → sae_at U at_first (with_bytes f more) ≡ Some sae
  sae_with at_first (Key name master slave route bytes) more sae h = h
  sae_with at_first (Chunk name stream index route bytes) more sae h = stream_moves at_first stream sae (fact_at T stream) refl h
  sae_with at_first (Stored note about route) more sae h = cc
  sae_with at_first (Open stream source peer size route) more sae h = cc
  sae_with at_first (Joined note about route) more sae h = cc
  sae_with at_first (Part name key master slave route bytes) more sae h = h

  pub sae_moves : (at_first : Bool) (f g : Fact) (sae : ℕ) → AreAlike f g → sae_at T at_first g ≡ Some sae → sae_at U at_first f ≡ Some sae
  sae_moves at_first f g sae h e = ap (sae_at U at_first) (sym (alike_is f g h)) ∙ sae_with at_first g (bytes_of f) sae e

  stored_moves : (ns ms : List Name) → ((n : Name) → has ns n ≡ true → has ms n ≡ true) → (n : Name) → KnowsStored T ns n → KnowsStored U ms n
  stored_moves ns ms more n h =
      let t = all h.note h.fact h.there in
      record { note = h.note; fact = t.fact; there = t.there; about = alike_same (is_stored_about n) (stored_blind n) t.fact h.fact t.alike ∙ h.about; knows = more h.note h.knows }

  pub part_moves : (n p : Name) → IsPart T n p → IsPart U n p
  part_moves n p h =
      let t = all p h.fact h.there in
      let part = part_like t.fact h.fact t.alike h.part h.is in
      record { fact = t.fact; part = part.part; there = t.there; is = part.is; key = part.key ∙ h.key }

  module _ (known more : ℕ → List Name) (knows : (v : ℕ) (n : Name) → has (known v) n ≡ true → has (more v) n ≡ true) where
    pub adjacent_moves : (k u v : ℕ) (n : Name) → IsAdjacent T known k u v n → IsAdjacent U more k u v n
    adjacent_moves k u v n h =
        let t = all n h.fact h.there in
        record {
          fact = t.fact;
          there = t.there;
          next = ap (λ (r : List ℕ). next_after r u) (alike_same route_of route_blind t.fact h.fact t.alike) ∙ h.next;
          knows = knows k n h.knows;
        }

    pub one_moves : (s : Site) (n : Name) (sae : ℕ) → MayHaveOne s T known n sae → MayHaveOne s U more n sae
    one_moves s n sae h =
        let t = all n h.fact h.there in
        record {
          fact = t.fact;
          there = t.there;
          single = alike_same is_single single_blind t.fact h.fact t.alike ∙ h.single;
          knows = knows (s.home sae) n h.knows;
          is_end = elim h.is_end [
            | inl first ↦ inl (sae_moves true t.fact h.fact sae t.alike first.0, stored_moves (known (s.home sae)) (more (s.home sae)) (knows (s.home sae)) n first.1)
            | inr last ↦ inr (sae_moves false t.fact h.fact sae t.alike last)
          ];
        }

    group_moves : (s : Site) (n : Name) (sae : ℕ) → ((p : Name) → IsPart U n p → IsPart T n p) → MayHaveGroup s T known n sae → MayHaveGroup s U more n sae
    group_moves s n sae back h =
        let t = all h.name h.one.fact h.one.there in
        let part = part_like t.fact h.one.fact t.alike h.one.part h.one.is in
        record {
          name = h.name;
          one = record { fact = t.fact; part = part.part; there = t.there; is = part.is; key = part.key ∙ h.one.key };
          is_end = elim h.is_end [
            | inl master ↦ inl (
              part.master ∙ master.0,
              λ p is.
                  let r = master.1 p (back p is) in (knows (s.home sae) p r.0, stored_moves (known (s.home sae)) (more (s.home sae)) (knows (s.home sae)) p r.1),
            )
            | inr slave ↦ inr (part.slave ∙ slave.0, knows (s.home sae) h.name slave.1)
          ];
        }

    -- Who may have a key still may, if the second table has no other parts.
    pub have_moves : (s : Site) (n : Name) (sae : ℕ) → ((p : Name) → IsPart U n p → IsPart T n p) → MayHave s T known n sae → MayHave s U more n sae
    have_moves s n sae back (inl one) = inl (one_moves s n sae one)
    have_moves s n sae back (inr group) = inr (group_moves s n sae back group)

-- Of a table whose group keys are in order, facts whose bytes are handed out under one name have the same bytes.
module _ (T : List Fact) (groups : IsGroups T) where
  no_key : (n : Name) (f : Fact) (p : PartOf) (g : Fact) → fact_at T n ≡ Some f → part_of f ≡ Some p → fact_at T p.key ≡ Some g → ⊥
  no_key n f p g at is other = not_both (has_fact T p.key) (is_some_of_some (fact_at T p.key) g other) (groups.free n f p at is)

  one_secret : (n m : Name) (f g : Fact) (o r : Option PartOf) → fact_at T n ≡ Some f → fact_at T m ≡ Some g → part_of f ≡ o → part_of g ≡ r → key_or n o ≡ key_or m r → bytes_of f ≡ bytes_of g
  one_secret n m f g None None at at2 is is2 e = let both : Some f ≡ Some g = sym at ∙ ap (fact_at T) e ∙ at2 in let one : f ≡ g = cc in ap bytes_of one
  one_secret n m f g (Some p) None at at2 is is2 e = absurd (no_key n f p g at is (ap (fact_at T) e ∙ at2))
  one_secret n m f g None (Some q) at at2 is is2 e = absurd (no_key m g q f at2 is2 (ap (fact_at T) (sym e) ∙ at))
  one_secret n m f g (Some p) (Some q) at at2 is is2 e = sym (part_bytes f p is) ∙ (groups.alike n m f g p q at at2 is is2 e).bytes ∙ part_bytes g q is2

  pub same_secret : (n m : Name) (f g : Fact) → fact_at T n ≡ Some f → fact_at T m ≡ Some g → handed_name f ≡ handed_name g → bytes_of f ≡ bytes_of g
  same_secret n m f g at at2 e =
      one_secret n m f g (part_of f) (part_of g) at at2 refl refl
      (ap (λ (x : Name). key_or x (part_of f)) (sym (found_name T n f at)) ∙ sym (handed_is f) ∙ e ∙ handed_is g ∙ ap (λ (x : Name). key_or x (part_of g)) (found_name T m g at2))
