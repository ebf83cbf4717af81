-- The kept world's table and what nodes know keep all that is conserved of them.
use Rattle.std.proofs.Common.{◌≡◌, ℕ, ◌<◌, Bool, false, List, [], ◌∷◌, map, refl, sym, ◌∙◌, ap, subst, Option, Some, None}
use Rattle.std.specs.Prelude.{find, count_by}
use Rattle.std.specs.List.{AllByRecursion, cons_option}
use Rattle.qkd_base.specs.Name.{Name, IsName}
use Rattle.qkd_base.specs.Route.{first_of}
use Rattle.net_model.specs.declared.fact.Fact.{Fact}
use Rattle.net_model.specs.Ranges.{IsRangedFact}
use Rattle.net_model.specs.Table.{PartOf, part_of, is_part_of, name_of, route_of, origin, bytes_of, without_bytes, fact_at, has_fact, facts_of, is_stored_about}
use Rattle.net_model.specs.OctetSequence.{OctetSequence}
use Rattle.net_model.specs.Site.{Site}
use Rattle.net_model.specs.Streams.{is_chunk_of, is_chunk_at}
use Rattle.net_model.specs.View.{View}
use Rattle.net_model.specs.Knowledge.{IsTable, IsStreams, AreParts, IsGroups, IsOn, PredecessorKnows, IsKnowledge, IsMarked, IsStoredOnce}
use Rattle.law_base.proofs.Base.{not_both}
use Rattle.law_base.proofs.Tables.{found_name, is_some_of_some, is_some_of_none}
use Rattle.law_base.proofs.Masked.{IsBlind, route_blind, stored_blind, chunk_blind, place_blind}
use Rattle.law_locality.proofs.Lists.{all_weaker}
use Rattle.law_lives.specs.Belongs.{view_in, names_of, known_in, table_in, needed_in, IsNamed, is_part_for, IsAkin, Belongs}
use Rattle.law_lives.specs.KeptWorld.{with_found, kept_fact, kept_table}
use Rattle.law_lives.proofs.KeptTables.{known_fact}
use Rattle.law_lives.proofs.KeptFacts.{kept_nowhere, kept_from, AllRead, needed_by, kept_here, kept_tabled, kept_of, same_size}
use Rattle.law_lives.proofs.LikeFacts.{AreAlike, alike_same, part_bytes, part_like, formed_like, ranged_with, ranged_zeros, octets_of, part_secret, part_key, part_named, found_bytes, same_named, count_shapes, origin_alike}
use Rattle.law_lives.proofs.LikeTables.{IsThere, entitled_moves, target_moves, adjacent_moves}
use Rattle.law_invariant.specs.HandedName.{handed_name}

module _ (s : Site) (devices : ℕ → OctetSequence) (views : List View) (read : AllRead views) (b : Belongs s devices views) where
  abbrev kept : List Fact
  kept = kept_table views

  abbrev known : ℕ → List Name
  known = known_in views

  -- Each node's facts in the kept table are its own, but for bytes.
  all_alike : (fs : List Fact) → AllByRecursion (λ (f : Fact). IsThere kept (name_of f) f) fs → map without_bytes (facts_of kept (names_of fs)) ≡ map without_bytes fs
  all_alike [] h = refl
  all_alike (f ∷ fs) h =
      let one = h.0 in
      ap (λ (o : Option Fact). map without_bytes (cons_option o (facts_of kept (names_of fs)))) one.there ∙
      (let alike = one.alike in let rest = all_alike fs h.1 in λ i. alike i ∷ rest i)

  pub facts_alike : (v : ℕ) → map without_bytes (facts_of kept (known v)) ≡ map without_bytes (view_in views v).facts
  facts_alike v =
      all_alike (view_in views v).facts
      (all_weaker (λ (f : Fact). fact_at (view_in views v).facts (name_of f) ≡ Some f) (λ (f : Fact). IsThere kept (name_of f) f)
      (λ f h. kept_here s devices views read b v (name_of f) f h) (view_in views v).facts (read v).found)

  count_alike : (p : Fact → Bool) → IsBlind p → (v : ℕ) → count_by p (facts_of kept (known v)) ≡ count_by p (view_in views v).facts
  count_alike p blind v =
      sym (count_shapes p blind (facts_of kept (known v))) ∙ ap (count_by p) (facts_alike v) ∙ count_shapes p blind (view_in views v).facts

  -- Lemmas on the table.

  pub kept_ranged : (g : Fact) → IsRangedFact g → IsRangedFact (kept_fact views g)
  kept_ranged g h = elim (needed_in views (handed_name g)) as (λ o. needed_in views (handed_name g) ≡ o → IsRangedFact (with_found g o)) [
    | None ↦ λ e. ranged_zeros g h
    | Some x ↦ λ e. let need = needed_by views read (handed_name g) x e in ranged_with g (bytes_of x) (octets_of x (b.formed need.node (name_of x) x need.there).1) h
  ] refl

  pub table_kept : IsTable s kept known
  table_kept n f at =
      let k = kept_of s devices views read b n f at in
      let from = kept_from views n f at in
      let same : Some from.fact ≡ Some k.fact = sym from.there ∙ k.there in
      let is : f ≡ kept_fact views k.fact = from.is ∙ (let one : from.fact ≡ k.fact = cc in ap (kept_fact views) one) in
      let forms = b.formed k.node n k.fact k.known in
      let made = b.makers n k.fact k.there in
      record {
        formed = formed_like f k.fact k.alike forms.0;
        ranged = subst IsRangedFact (sym is) (kept_ranged k.fact forms.1);
        maker = made.0 ∙ ap first_of (sym (alike_same route_of route_blind f k.fact k.alike));
        made = made.1;
        entitled = entitled_moves (table_in views) kept (kept_tabled s devices views read b) s f k.fact k.alike (b.entitled n k.fact k.there);
      }

  -- Lemmas on streams.

  pub streams_kept : IsStreams kept known
  streams_kept = record {
    differ = λ n m f g stream index at at2 is is2.
        let k = kept_of s devices views read b n f at in
        let l = kept_of s devices views read b m g at2 in
        same_named n m (find (is_chunk_at stream index) (table_in views))
        (b.chunks n k.fact stream index k.there (sym (alike_same (is_chunk_at stream index) (place_blind stream index) f k.fact k.alike) ∙ is)).alone
        (b.chunks m l.fact stream index l.there (sym (alike_same (is_chunk_at stream index) (place_blind stream index) g l.fact l.alike) ∙ is2)).alone;
    below = λ n f stream index at is.
        let k = kept_of s devices views read b n f at in
        subst (λ (count : ℕ). index < count) (sym (count_alike (is_chunk_of stream) (chunk_blind stream) n.node))
        (b.chunks n k.fact stream index k.there (sym (alike_same (is_chunk_at stream index) (place_blind stream index) f k.fact k.alike) ∙ is)).below;
  }

  -- Lemmas on group keys.

  akin : (f g : Fact) (p q : PartOf) (o : Option Fact) → IsAkin f p o → IsAkin g q o → (p.master ≡ q.master) × (origin f ≡ origin g)
  akin f g p q None h k = absurd h
  akin f g p q (Some x) h k =
      let a : PartOf = h.0 in
      let c : PartOf = k.0 in
      let same : Some a ≡ Some c = sym h.1 ∙ k.1 in
      let is : a ≡ c = cc in (
        h.2.master ∙ ap (λ (y : PartOf). y.master) is ∙ sym k.2.master,
        h.2.origin ∙ sym k.2.origin,
      )

  -- A part of the kept table, and the merged table's part.
  record IsPartKept (n : Name) (f : Fact) (p : PartOf) : Type 0 where
    fact : Fact
    there : fact_at (table_in views) n ≡ Some fact
    is : f ≡ kept_fact views fact
    alike : AreAlike f fact
    part : PartOf
    has_part : part_of fact ≡ Some part
    key : part.key ≡ p.key
    master : part.master ≡ p.master
    slave : part.slave ≡ p.slave
    ranged : IsRangedFact fact

  part_kept : (n : Name) (f : Fact) (p : PartOf) → fact_at kept n ≡ Some f → part_of f ≡ Some p → IsPartKept n f p
  part_kept n f p at is =
      let k = kept_of s devices views read b n f at in
      let from = kept_from views n f at in
      let same : Some from.fact ≡ Some k.fact = sym from.there ∙ k.there in
      let one : from.fact ≡ k.fact = cc in
      let part = part_like k.fact f (sym k.alike) p is in
      record {
        fact = k.fact;
        there = k.there;
        is = from.is ∙ ap (kept_fact views) one;
        alike = k.alike;
        part = part.part;
        has_part = part.is;
        key = part.key;
        master = part.master;
        slave = part.slave;
        ranged = (b.formed k.node n k.fact k.known).1;
      }

  parts_bytes : (n m : Name) (f g : Fact) (p q : PartOf) → part_of f ≡ Some p → part_of g ≡ Some q → IsPartKept n f p → IsPartKept m g q → p.key ≡ q.key → p.bytes ≡ q.bytes
  parts_bytes n m f g p q is is2 k l e =
      let secret : handed_name k.fact ≡ handed_name l.fact = part_key k.fact k.part k.has_part ∙ k.key ∙ e ∙ sym l.key ∙ sym (part_key l.fact l.part l.has_part) in
      part_bytes f p is ∙ ap bytes_of k.is ∙ ap (λ (x : Name). bytes_of (with_found k.fact (needed_in views x))) secret ∙
      found_bytes k.fact l.fact (needed_in views (handed_name l.fact)) (part_secret k.fact k.part k.has_part) (part_secret l.fact l.part l.has_part)
      (same_size s devices views read b n m k.fact l.fact k.there l.there secret) ∙ sym (ap bytes_of l.is) ∙ sym (part_bytes g q is2)

  parts_alike : (n m : Name) (f g : Fact) (p q : PartOf) → fact_at kept n ≡ Some f → fact_at kept m ≡ Some g → part_of f ≡ Some p → part_of g ≡ Some q → p.key ≡ q.key → AreParts f g p q
  parts_alike n m f g p q at at2 is is2 e =
      let k = part_kept n f p at is in
      let l = part_kept m g q at2 is2 in
      let first = b.parts n k.fact k.part k.there k.has_part in
      let second = b.parts m l.fact l.part l.there l.has_part in
      let keys : k.part.key ≡ l.part.key = k.key ∙ e ∙ sym l.key in
      let both = akin k.fact l.fact k.part l.part (find (is_part_of l.part.key) (table_in views))
      (subst (λ (x : Name). IsAkin k.fact k.part (find (is_part_of x) (table_in views))) keys first.like) second.like in
      record {
        bytes = parts_bytes n m f g p q is is2 k l e;
        master = sym k.master ∙ both.0 ∙ l.master;
        origin = origin_alike f k.fact k.alike ∙ both.1 ∙ sym (origin_alike g l.fact l.alike);
        slaves = λ same.
            let slaves : k.part.slave ≡ l.part.slave = k.slave ∙ same ∙ sym l.slave in
            let names : n ≡ m = same_named n m (find (is_part_for l.part.key l.part.slave) (table_in views))
            (subst (λ (x : ℕ). IsNamed n (find (is_part_for l.part.key x) (table_in views))) slaves
            (subst (λ (x : Name). IsNamed n (find (is_part_for x k.part.slave) (table_in views))) keys first.alone)) second.alone in
            found_name kept n f at ∙ names ∙ sym (found_name kept m g at2);
      }

  kept_has : (n : Name) → has_fact (table_in views) n ≡ false → has_fact kept n ≡ false
  kept_has n h = elim (fact_at (table_in views) n) as (λ o. fact_at (table_in views) n ≡ o → has_fact kept n ≡ false) [
    | None ↦ λ e. is_some_of_none (fact_at kept n) (kept_nowhere views n e)
    | Some g ↦ λ e. absurd (not_both (has_fact (table_in views) n) (is_some_of_some (fact_at (table_in views) n) g e) h)
  ] refl

  pub groups_kept : IsGroups kept
  groups_kept = record {
    alike = parts_alike;
    own = λ n f p at is.
        let k = part_kept n f p at is in
        let part = b.parts n k.fact k.part k.there k.has_part in (
          ap (λ (x : Name). x.node) (sym k.key) ∙ part.own ∙ sym (origin_alike f k.fact k.alike),
          subst IsName k.key (part_named k.fact k.part k.ranged k.has_part),
        );
    free = λ n f p at is.
        let k = part_kept n f p at is in
        ap (has_fact kept) (sym k.key) ∙ kept_has k.part.key (b.parts n k.fact k.part k.there k.has_part).free;
  }

  -- Lemmas on what nodes know.

  pub knowledge_kept : IsKnowledge kept known
  knowledge_kept = record {
    differ = λ v. (read v).names;
    each = λ v n h.
        let k = known_fact views v n h in
        let here = kept_here s devices views read b v n k.0 k.1 in
        let route : route_of k.0 ≡ route_of here.fact = sym (alike_same route_of route_blind here.fact k.0 here.alike) in
        let spread = b.spread v n k.0 k.1 in
        record {
          fact = here.fact;
          there = here.there;
          on = subst (λ (r : List ℕ). IsOn r v) route spread.0;
          source = subst (PredecessorKnows known v n) route spread.1;
        };
  }

  pub marked_kept : IsMarked kept known (λ v. (view_in views v).acked)
  marked_kept v n h = let r = b.acked v n h in (r.0, adjacent_moves (table_in views) kept (kept_tabled s devices views read b) known known (λ u m k. k) r.0 v r.0 n r.1)

  pub stored_kept : IsStoredOnce kept known
  stored_kept = record {
    target = λ m n f at is.
        let k = kept_of s devices views read b m f at in
        let note = b.stored m n k.fact k.there (sym (alike_same (is_stored_about n) (stored_blind n) f k.fact k.alike) ∙ is) in
        (target_moves (table_in views) kept (kept_tabled s devices views read b) m.node n (fact_at (table_in views) n) refl note.target, note.knows);
    once = λ m m2 n f f2 at at2 is is2.
        let k = kept_of s devices views read b m f at in
        let l = kept_of s devices views read b m2 f2 at2 in
        same_named m m2 (find (is_stored_about n) (table_in views))
        (b.stored m n k.fact k.there (sym (alike_same (is_stored_about n) (stored_blind n) f k.fact k.alike) ∙ is)).alone
        (b.stored m2 n l.fact l.there (sym (alike_same (is_stored_about n) (stored_blind n) f2 l.fact l.alike) ∙ is2)).alone;
  }
