-- The views of a conserved world belong to one network.
use Rattle.std.proofs.Common.{◌≡◌, ℕ, zero, suc, ◌<◌, ◌≤◌, Bool, true, false, ◌&&◌, List, [], ◌∷◌, length, map, refl, sym, ◌∙◌, ap, subst, arith, Option, Some, None, inl, inr, ◌⊎◌}
use Rattle.std.specs.Prelude.{◌==◌, is_some, if◌then◌else◌, find, slice_get, count_by}
use Rattle.std.proofs.lemmas.Option.{slice_get_past}
use Rattle.qkd_base.specs.Name.{Name, name_eq, has}
use Rattle.qkd_base.specs.declared.lane.Lane.{Lane}
use Rattle.net_model.specs.declared.fact.Fact.{Fact}
use Rattle.net_model.specs.Facts.{IsWellFormedFact}
use Rattle.net_model.specs.Ranges.{IsRangedFact}
use Rattle.net_model.specs.Table.{PartOf, part_of, is_named, is_part_of, name_of, route_of, origin, is_secret, bytes_of, without_bytes, fact_at, has_fact, is_stored_about, was_handed}
use Rattle.net_model.specs.OctetSequence.{first_blocks}
use Rattle.net_model.specs.Site.{outgoing_lanes}
use Rattle.net_model.specs.World.{Network, World}
use Rattle.net_model.specs.Streams.{is_chunk_of, is_chunk_at}
use Rattle.net_model.specs.View.{View, Port}
use Rattle.net_model.specs.Needed.{is_needed, masked_fact, view_of, port_at}
use Rattle.net_model.specs.Knowledge.{chunks_known, IsOn, PredecessorKnows, IsAdjacent}
use Rattle.net_model.specs.Handings.{MayHave}
use Rattle.net_model.specs.Invariant.{Conserved}
use Rattle.law_base.proofs.Base.{eq_from, eq_same, and_both, and_left, and_right, name_eq_same, name_eq_from, not_both, not_false, split}
use Rattle.law_base.proofs.LaneBlocks.{count_blocks}
use Rattle.law_base.proofs.Lists.{mapped_at}
use Rattle.law_base.proofs.Masked.{route_blind, stored_blind, place_blind}
use Rattle.law_base.proofs.Seen.{bare_view, some_found, found_passes}
use Rattle.law_base.proofs.Tables.{found_name, is_some_of_some}
use Rattle.law_base.proofs.Views.{chunks_counted}
use Rattle.law_lives.specs.Belongs.{view_or, view_in, known_in, table_in, is_needed_as, or_later, needed_in, IsLike, HasBytesOf, IsNamed, is_for, is_part_for, AreAkin, IsAkin, IsPartIn, IsChunkIn, IsNoteIn, NothingBehind, Belongs}
use Rattle.law_lives.proofs.KeptFacts.{AllRead, IsNeededBy, needed_by}
use Rattle.law_lives.proofs.KeptTables.{table_known, has_found, known_fact, table_found, in_table, some_of}
use Rattle.law_lives.proofs.LikeFacts.{AreAlike, alike_same, length_blind, formed_like, ranged_zeros, part_bytes, part_like, origin_alike}
use Rattle.law_lives.proofs.LikeTables.{IsThere, HasAll, entitled_moves, target_moves, adjacent_moves, part_moves, have_moves, same_secret}
use Rattle.law_invariant.specs.HandedName.{handed_name}
use Rattle.law_lives.proofs.Seeing.{handed_home, IsSeenAs, seen_as, shown_as, needed_as, view_acked, view_handed, view_ports}

pub within_or_behind : (v n : ℕ) → (v < n) ⊎ (n ≤ v)
within_or_behind v n = elim (split v n) [ inl less ↦ inl less | inr (k, e) ↦ inr (omega (arith, e)) ]

-- Of a part's test, the part is another one's of that key and slave.
part_for : (key : Name) (slave : ℕ) (f : Fact) → is_part_for key slave f ≡ true → (p : PartOf) × (part_of f ≡ Some p) × (p.key ≡ key) × (p.slave ≡ slave)
part_for key slave f h = from (part_of f) refl h
  where
    from : (o : Option PartOf) → part_of f ≡ o → is_for key slave o ≡ true → (p : PartOf) × (part_of f ≡ Some p) × (p.key ≡ key) × (p.slave ≡ slave)
    from None e k = cc
    from (Some p) e k = (p, e, name_eq_from p.key key (and_left (name_eq p.key key) (p.slave == slave) k), eq_from p.slave slave (and_right (name_eq p.key key) (p.slave == slave) k))

pub part_named : (key : Name) (f : Fact) → is_part_of key f ≡ true → (p : PartOf) × (part_of f ≡ Some p) × (p.key ≡ key)
part_named key f h = from (part_of f) refl h
  where
    from : (o : Option PartOf) → part_of f ≡ o → is_named o key ≡ true → (p : PartOf) × (part_of f ≡ Some p) × (p.key ≡ key)
    from None e k = cc
    from (Some p) e k = (p, e, name_eq_from p.key key k)

own_part : (f : Fact) (p : PartOf) → part_of f ≡ Some p → is_part_of p.key f ≡ true
own_part f p h = ap (λ (o : Option PartOf). is_named o p.key) h ∙ name_eq_same p.key

own_part_for : (f : Fact) (p : PartOf) → part_of f ≡ Some p → is_part_for p.key p.slave f ≡ true
own_part_for f p h = ap (is_for p.key p.slave) h ∙ and_both (name_eq p.key p.key) (p.slave == p.slave) (name_eq_same p.key) (eq_same p.slave)

-- A view that needs the bytes of a name makes the look-up find some.
some_needed : (views : List View) (v : ℕ) (n : Name) → is_some (find (is_needed_as (view_in views v) n) (view_in views v).facts) ≡ true → is_some (needed_in views n) ≡ true
some_needed [] v n h = cc
some_needed (view ∷ views) zero n h = elim (find (is_needed_as view n) view.facts) as (λ o. is_some o ≡ true → is_some (or_later o (needed_in views n)) ≡ true) [
  | Some f ↦ λ e. refl
  | None ↦ λ e. cc
] h
some_needed (view ∷ views) (suc v) n h = elim (find (is_needed_as view n) view.facts) as (λ o. is_some (or_later o (needed_in views n)) ≡ true) [
  | Some f ↦ refl
  | None ↦ some_needed views v n h
]

module _ (net : Network) (w : World) (c : Conserved net w) (behind : NothingBehind net w) (views : List View) (read : AllRead views) (all : length views ≡ net.site.nodes)
    (same : (v : ℕ) → v < net.site.nodes → view_in views v ≡ view_of net w v) where
  abbrev T : List Fact
  T = w.durable.facts

  abbrev known : ℕ → List Name
  known = w.durable.known

  abbrev table : List Fact
  table = table_in views

  nothing_here : (v : ℕ) → net.site.nodes ≤ v → view_in views v ≡ view_or None
  nothing_here v past = ap view_or (slice_get_past views v (omega (arith, past, all)))

  -- A node's fact is the world's, but for bytes.
  record IsHere (v : ℕ) (n : Name) (f : Fact) : Type 0 where
    less : v < net.site.nodes
    seen : IsSeenAs net w v n f

  here : (v : ℕ) (n : Name) (f : Fact) → fact_at (view_in views v).facts n ≡ Some f → IsHere v n f
  here v n f h = elim (within_or_behind v net.site.nodes) [
    | inl less ↦ record { less = less; seen = seen_as net w v n f (ap (λ (x : View). fact_at x.facts n) (sym (same v less)) ∙ h) }
    | inr past ↦ let none : fact_at (view_in views v).facts n ≡ None = ap (λ (x : View). fact_at x.facts n) (nothing_here v past) in cc
  ]

  knows_within : (v : ℕ) (n : Name) → has (known v) n ≡ true → v < net.site.nodes
  knows_within v n h = elim (within_or_behind v net.site.nodes) [
    | inl less ↦ less
    | inr past ↦ let none : has (known v) n ≡ false = ap (λ (ns : List Name). has ns n) (behind v past) in absurd (not_both (has (known v) n) h none)
  ]

  there_at : (v : ℕ) (n : Name) (g : Fact) → fact_at T n ≡ Some g → has (known v) n ≡ true → fact_at (view_in views v).facts n ≡ Some (masked_fact (bare_view net w v) g)
  there_at v n g e h = ap (λ (x : View). fact_at x.facts n) (same v (knows_within v n h)) ∙ shown_as net w v n g e h

  knows_there : (v : ℕ) (n : Name) → has (known v) n ≡ true → has (known_in views v) n ≡ true
  knows_there v n h =
      let k = c.now.knowledge.each v n h in
      has_found (view_in views v).facts n ∙ is_some_of_some (fact_at (view_in views v).facts n) (masked_fact (bare_view net w v) k.fact) (there_at v n k.fact k.there h)

  knows_here : (v : ℕ) (n : Name) → has (known_in views v) n ≡ true → has (known v) n ≡ true
  knows_here v n h = let k = known_fact views v n h in (here v n k.0 k.1).seen.knows

  -- The merged table and the world's have like facts.

  from_table : HasAll table T
  from_table n f h = let k = table_known views n f h in let x = here k.node n f k.there in record { fact = x.seen.fact; there = x.seen.there; alike = sym x.seen.alike }

  to_table : HasAll T table
  to_table n g h =
      let f = c.now.table n g h in
      let in' = in_table views n.node n (masked_fact (bare_view net w n.node) g) (there_at n.node n g h f.made) in
      let x = from_table n in'.0 in'.1 in
      let one : Some x.fact ≡ Some g = sym x.there ∙ h in
      let is : x.fact ≡ g = cc in
      record { fact = in'.0; there = in'.1; alike = sym (subst (λ (y : Fact). AreAlike y in'.0) is x.alike) }

  -- What the world's fact of a name is, given the merged table's.
  from_found : (p : Fact → Bool) (x : Fact) → find p table ≡ Some x → IsThere T (name_of x) x
  from_found p x h = from_table (name_of x) x (table_found views p x h)

  -- A search of the merged table finds something, if a fact of it passes.
  finds : (p : Fact → Bool) (n : Name) (f : Fact) → fact_at table n ≡ Some f → p f ≡ true → (x : Fact) × (find p table ≡ Some x)
  finds p n f h k = some_of (find p table) (some_found p (λ y. name_eq (name_of y) n) table f h k)

  -- ---- the conditions

  blocks_front : (v k : ℕ) (p : Port) → slice_get (view_in views v).ports k ≡ Some p → p.blocks ≡ first_blocks (net.device p.lane.link) (length p.blocks)
  blocks_front v k p h = elim (within_or_behind v net.site.nodes) [
    | inl less ↦
        let at : slice_get (map (port_at net w) (outgoing_lanes net.site v)) k ≡ Some p =
        ap (λ (ps : List Port). slice_get ps k) (sym (view_ports net w v)) ∙ ap (λ (x : View). slice_get x.ports k) (sym (same v less)) ∙ h in
        let r = mapped_at (port_at net w) (outgoing_lanes net.site v) p k at in
        let l : Lane = r.0 in
        subst (λ (q : Port). q.blocks ≡ first_blocks (net.device q.lane.link) (length q.blocks)) r.2
        (ap (first_blocks (net.device l.link)) (sym (count_blocks (net.device l.link) (w.durable.blocks l))))
    | inr past ↦ let none : slice_get (view_in views v).ports k ≡ None = ap (λ (x : View). slice_get x.ports k) (nothing_here v past) in cc
  ]

  masked_ranged : (b : View) (f : Fact) → IsRangedFact f → IsRangedFact (masked_fact b f)
  masked_ranged b f h = elim (is_needed b f) as (λ t. IsRangedFact (if t then f else without_bytes f)) [ true ↦ h | false ↦ ranged_zeros f h ]

  all_formed : (v : ℕ) (n : Name) (f : Fact) → fact_at (view_in views v).facts n ≡ Some f → IsWellFormedFact f × IsRangedFact f
  all_formed v n f h =
      let x = here v n f h in
      let k = c.now.table n x.seen.fact x.seen.there in
      (formed_like f x.seen.fact x.seen.alike k.formed, subst IsRangedFact (sym x.seen.is) (masked_ranged (bare_view net w v) x.seen.fact k.ranged))

  all_agree : (v : ℕ) (n : Name) (f : Fact) → fact_at (view_in views v).facts n ≡ Some f → IsLike f (fact_at table n)
  all_agree v n f h =
      let x = here v n f h in
      let t = to_table n x.seen.fact x.seen.there in
      subst (IsLike f) (sym t.there) (x.seen.alike ∙ sym t.alike)

  needed_is : (v : ℕ) (n : Name) (f : Fact) (x : IsHere v n f) → is_needed (view_in views v) f ≡ true → f ≡ x.seen.fact
  needed_is v n f x h = needed_as net w v n f x.seen (ap (λ (y : View). is_needed y f) (sym (same v x.less)) ∙ h)

  found_needed : (v : ℕ) (n : Name) (f : Fact) → fact_at (view_in views v).facts n ≡ Some f → is_needed (view_in views v) f ≡ true → (g : Fact) → IsNeededBy views (handed_name f) g → bytes_of f ≡ bytes_of g
  found_needed v n f h need g k =
      let x = here v n f h in
      let y = here k.node (name_of g) g k.there in
      let is = needed_is v n f x need in
      let is2 = needed_is k.node (name_of g) g y k.need in
      let secret : handed_name x.seen.fact ≡ handed_name y.seen.fact = sym (ap handed_name is) ∙ sym k.named ∙ ap handed_name is2 in
      ap bytes_of is ∙ same_secret T c.now.groups n (name_of g) x.seen.fact y.seen.fact x.seen.there y.seen.there secret ∙ sym (ap bytes_of is2)

  all_needed : (v : ℕ) (n : Name) (f : Fact) → fact_at (view_in views v).facts n ≡ Some f → is_secret f ≡ true → is_needed (view_in views v) f ≡ true →
      HasBytesOf f (needed_in views (handed_name f))
  all_needed v n f h secret need =
      let p : Fact → Bool = is_needed_as (view_in views v) (handed_name f) in
      let passes : is_needed_as (view_in views v) (handed_name f) f ≡ true =
      and_both (is_secret f && name_eq (handed_name f) (handed_name f)) (is_needed (view_in views v) f) (and_both (is_secret f) (name_eq (handed_name f) (handed_name f)) secret (name_eq_same (handed_name f))) need in
      let found = some_of (needed_in views (handed_name f))
      (some_needed views v (handed_name f) (some_found (is_needed_as (view_in views v) (handed_name f)) (λ y. name_eq (name_of y) n) (view_in views v).facts f h passes)) in
      subst (HasBytesOf f) (sym found.1) (found_needed v n f h need found.0 (needed_by views read (handed_name f) found.0 found.1))

  all_made : (n : Name) (f : Fact) → fact_at table n ≡ Some f → (n.node ≡ origin f) × (has (known_in views n.node) n ≡ true)
  all_made n f h =
      let x = from_table n f h in
      let k = c.now.table n x.fact x.there in
      (k.maker ∙ origin_alike x.fact f x.alike, knows_there n.node n k.made)

  all_chunks : (n : Name) (f : Fact) (stream : Name) (index : ℕ) → fact_at table n ≡ Some f → is_chunk_at stream index f ≡ true → IsChunkIn views n stream index
  all_chunks n f stream index h is =
      let p : Fact → Bool = is_chunk_at stream index in
      let x = from_table n f h in
      let chunk : is_chunk_at stream index x.fact ≡ true = alike_same (is_chunk_at stream index) (place_blind stream index) x.fact f x.alike ∙ is in
      let found = finds (is_chunk_at stream index) n f h is in
      let y = from_found (is_chunk_at stream index) found.0 found.1 in
      let chunk2 : is_chunk_at stream index y.fact ≡ true = alike_same (is_chunk_at stream index) (place_blind stream index) y.fact found.0 y.alike ∙ found_passes (is_chunk_at stream index) table found.0 found.1 in
      let k = c.now.table n x.fact x.there in
      let count : count_by (is_chunk_of stream) (view_in views n.node).facts ≡ chunks_known T (known n.node) stream =
      ap (λ (v : View). count_by (is_chunk_of stream) v.facts) (same n.node (knows_within n.node n k.made)) ∙ chunks_counted net w n.node stream in
      record {
        alone = subst (IsNamed n) (sym found.1) (c.now.streams.differ (name_of found.0) n y.fact x.fact stream index y.there x.there chunk2 chunk);
        below = subst (λ (number : ℕ). index < number) (sym count) (c.now.streams.below n x.fact stream index x.there chunk);
      }

  -- Two parts of the merged table, of one group key.
  two_parts : (n m : Name) (f g : Fact) (p q : PartOf) → fact_at table n ≡ Some f → fact_at table m ≡ Some g → part_of f ≡ Some p → part_of g ≡ Some q → p.key ≡ q.key →
      AreAkin f g p q × (p.slave ≡ q.slave → n ≡ m)
  two_parts n m f g p q at at2 is is2 e =
      let x = from_table n f at in
      let y = from_table m g at2 in
      let a = part_like x.fact f x.alike p is in
      let b = part_like y.fact g y.alike q is2 in
      let both = c.now.groups.alike n m x.fact y.fact a.part b.part x.there y.there a.is b.is (a.key ∙ e ∙ sym b.key) in
      let size : length p.bytes ≡ length q.bytes =
      ap length (part_bytes f p is) ∙ sym (alike_same (λ z. length (bytes_of z)) length_blind x.fact f x.alike) ∙ ap length (sym (part_bytes x.fact a.part a.is)) ∙ ap length both.bytes ∙
      ap length (part_bytes y.fact b.part b.is) ∙ alike_same (λ z. length (bytes_of z)) length_blind y.fact g y.alike ∙ ap length (sym (part_bytes g q is2)) in (
        record { master = sym a.master ∙ both.master ∙ b.master; origin = sym (origin_alike x.fact f x.alike) ∙ both.origin ∙ origin_alike y.fact g y.alike; size = size },
        λ slaves. sym (found_name T n x.fact x.there) ∙ both.slaves (a.slave ∙ slaves ∙ sym b.slave) ∙ found_name T m y.fact y.there,
      )

  key_is_free : (n : Name) → has_fact T n ≡ false → has_fact table n ≡ false
  key_is_free n h = not_false (has_fact table n) (λ e.
      let f = some_of (fact_at table n) e in
      let x = from_table n f.0 f.1 in
      not_both (has_fact T n) (is_some_of_some (fact_at T n) x.fact x.there) h)

  all_parts : (n : Name) (f : Fact) (p : PartOf) → fact_at table n ≡ Some f → part_of f ≡ Some p → IsPartIn table n f p
  all_parts n f p h is =
      let x = from_table n f h in
      let a = part_like x.fact f x.alike p is in
      let own = c.now.groups.own n x.fact a.part x.there a.is in
      let first = finds (is_part_of p.key) n f h (own_part f p is) in
      let q = part_named p.key first.0 (found_passes (is_part_of p.key) table first.0 first.1) in
      let akin = two_parts n (name_of first.0) f first.0 p q.0 h (table_found views (is_part_of p.key) first.0 first.1) is q.1 (sym q.2) in
      let other = finds (is_part_for p.key p.slave) n f h (own_part_for f p is) in
      let r = part_for p.key p.slave other.0 (found_passes (is_part_for p.key p.slave) table other.0 other.1) in
      let one = two_parts n (name_of other.0) f other.0 p r.0 h (table_found views (is_part_for p.key p.slave) other.0 other.1) is r.1 (sym r.2) in
      record {
        like = subst (IsAkin f p) (sym first.1) (q.0, q.1, akin.0);
        alone = subst (IsNamed n) (sym other.1) (sym (one.1 (sym r.3)));
        own = ap (λ (k : Name). k.node) (sym a.key) ∙ own.0 ∙ origin_alike x.fact f x.alike;
        free = key_is_free p.key (ap (has_fact T) (sym a.key) ∙ c.now.groups.free n x.fact a.part x.there a.is);
      }

  source_there : (v : ℕ) (n : Name) (route : List ℕ) → PredecessorKnows known v n route → PredecessorKnows (known_in views) v n route
  source_there v n route (inl made) = inl made
  source_there v n route (inr before) = inr (before.0, before.1, knows_there before.0 n before.2)

  all_spread : (v : ℕ) (n : Name) (f : Fact) → fact_at (view_in views v).facts n ≡ Some f → IsOn (route_of f) v × PredecessorKnows (known_in views) v n (route_of f)
  all_spread v n f h =
      let x = here v n f h in
      let k = c.now.knowledge.each v n x.seen.knows in
      let both : Some k.fact ≡ Some x.seen.fact = sym k.there ∙ x.seen.there in
      let is : k.fact ≡ x.seen.fact = cc in
      let route : route_of k.fact ≡ route_of f = ap route_of is ∙ sym (alike_same route_of route_blind f x.seen.fact x.seen.alike) in
      (subst (λ (r : List ℕ). IsOn r v) route k.on, source_there v n (route_of f) (subst (PredecessorKnows known v n) route k.source))

  all_acked : (v : ℕ) (n : Name) → has (view_in views v).acked n ≡ true → (u : ℕ) × IsAdjacent table (known_in views) u v u n
  all_acked v n h = elim (within_or_behind v net.site.nodes) [
    | inl less ↦
        let r = c.now.marked v n (ap (λ (ns : List Name). has ns n) (sym (ap (λ (x : View). x.acked) (same v less) ∙ view_acked net w v)) ∙ h) in
        (r.0, adjacent_moves T table to_table known (known_in views) knows_there r.0 v r.0 n r.1)
    | inr past ↦ let none : has (view_in views v).acked n ≡ false = ap (λ (x : View). has x.acked n) (nothing_here v past) in absurd (not_both (has (view_in views v).acked n) h none)
  ]

  all_stored : (m n : Name) (f : Fact) → fact_at table m ≡ Some f → is_stored_about n f ≡ true → IsNoteIn views m n
  all_stored m n f h is =
      let x = from_table m f h in
      let note : is_stored_about n x.fact ≡ true = alike_same (is_stored_about n) (stored_blind n) x.fact f x.alike ∙ is in
      let r = c.now.stored.target m n x.fact x.there note in
      let found = finds (is_stored_about n) m f h is in
      let y = from_found (is_stored_about n) found.0 found.1 in
      let note2 : is_stored_about n y.fact ≡ true = alike_same (is_stored_about n) (stored_blind n) y.fact found.0 y.alike ∙ found_passes (is_stored_about n) table found.0 found.1 in
      record {
        target = target_moves T table to_table m.node n (fact_at T n) refl r.0;
        knows = knows_there m.node n r.1;
        alone = subst (IsNamed m) (sym found.1) (c.now.stored.once (name_of found.0) m n y.fact x.fact y.there x.there note2 note);
      }

  all_handings : (v : ℕ) (n : Name) (sae : ℕ) → was_handed (view_in views v).handed n sae ≡ true → (net.site.home sae ≡ v) × MayHave net.site table (known_in views) n sae
  all_handings v n sae h = elim (within_or_behind v net.site.nodes) [
    | inl less ↦
        let r = handed_home net.site v w.durable.handed n sae (ap (λ (hs : List (Name × ℕ)). was_handed hs n sae) (sym (ap (λ (x : View). x.handed) (same v less) ∙ view_handed net w v)) ∙ h) in
        (r.0, have_moves T table to_table known (known_in views) knows_there net.site n sae (part_moves table T from_table n) (c.now.handings.entitled n sae r.1))
    | inr past ↦ let none : was_handed (view_in views v).handed n sae ≡ false = ap (λ (x : View). was_handed x.handed n sae) (nothing_here v past) in
        absurd (not_both (was_handed (view_in views v).handed n sae) h none)
  ]

  pub world_belongs : Belongs net.site net.device views
  world_belongs = record {
    blocks = blocks_front;
    formed = all_formed;
    agree = all_agree;
    needed = all_needed;
    makers = all_made;
    entitled = λ n f h. let x = from_table n f h in entitled_moves T table to_table net.site f x.fact (sym x.alike) (c.now.table n x.fact x.there).entitled;
    chunks = all_chunks;
    parts = all_parts;
    spread = all_spread;
    acked = all_acked;
    stored = all_stored;
    handings = all_handings;
  }
