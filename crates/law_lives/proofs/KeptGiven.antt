-- The kept world gives each view back.
use Rattle.std.proofs.Common.{◌≡◌, ℕ, suc, ◌+◌, ◌<◌, Bool, true, false, List, [], ◌∷◌, length, map, refl, sym, ◌∙◌, ap, subst, arith, Option, Some}
use Rattle.std.specs.Prelude.{if◌then◌else◌, find, filter, slice_get}
use Rattle.std.specs.List.{list_any, AllByRecursion, cons_option}
use Rattle.qkd_base.specs.Lane.{lane_eq}
use Rattle.qkd_base.specs.declared.lane.Lane.{Lane}
use Rattle.net_model.specs.declared.fact.Fact.{Fact}
use Rattle.net_model.specs.declared.fact.Fact.TheVariants.{Key, Chunk, Stored, Open, Joined, Part}
use Rattle.net_model.specs.declared.record.Record.{Record}
use Rattle.net_model.specs.Table.{name_of, is_secret, without_bytes, fact_at, facts_of}
use Rattle.net_model.specs.OctetSequence.{OctetSequence, first_blocks}
use Rattle.net_model.specs.Sealing.{Sealing}
use Rattle.net_model.specs.Site.{Site, sender, outgoing_lanes}
use Rattle.net_model.specs.World.{Network, World, Journal, no_volatile}
use Rattle.net_model.specs.Journal.{is_blank}
use Rattle.net_model.specs.View.{View, Port, handed_at}
use Rattle.net_model.specs.Needed.{is_needed, masked, masked_fact, view_of, port_at}
use Rattle.net_model.specs.Fold.{view_batches, view_restarted, empty_view, recovered_view}
use Rattle.law_base.proofs.Base.{lane_eq_from, lane_same, or_first, or_second, not_false}
use Rattle.law_base.proofs.Blind.{needed_blind, masked_fact_alike}
use Rattle.law_base.specs.Touched.{IsAlike}
use Rattle.law_invariant.proofs.Outgoing.{AreOutgoing, outgoing_each}
use Rattle.law_recovery.proofs.Kept.{lane_at, recovered_kept}
use Rattle.law_recovery.proofs.Starting.{at_lease}
use Rattle.law_lives.specs.Belongs.{view_in, names_of, known_in, AreRead, Belongs}
use Rattle.law_lives.specs.Left.{AreCurrent}
use Rattle.law_lives.specs.KeptWorld.{port_or, kept_port, kept_owners, kept_durable, kept_table, kept_network, kept_world}
use Rattle.law_lives.proofs.KeptFacts.{AllRead, kept_here, kept_needed}
use Rattle.law_lives.proofs.KeptHandings.{all_handed, handed_here}
use Rattle.law_lives.proofs.KeptKnowledge.{facts_alike}
use Rattle.law_lives.proofs.KeptLanes.{owners_length}
use Rattle.law_lives.proofs.KeptViews.{is_read, view_read}
use Rattle.law_lives.proofs.LikeFacts.{AreAlike, alike_same, secret_blind}
use Rattle.law_lives.proofs.KeptTables.{all_two}

-- ---- lists

all_same : {A : Type 0} (h : A → A) (xs : List A) → map h xs ≡ xs → AllByRecursion (λ (x : A). h x ≡ x) xs
all_same h [] e = tt
all_same h (x ∷ xs) e = let first : h x ≡ x = cc in let rest : map h xs ≡ xs = cc in (first, all_same h xs rest)

-- ---- facts

plain : (f : Fact) → is_secret f ≡ false → without_bytes f ≡ f
plain (Key name master slave route bytes) h = cc
plain (Chunk name stream index route bytes) h = cc
plain (Stored note about route) h = refl
plain (Open stream source peer size route) h = refl
plain (Joined note about route) h = refl
plain (Part name key master slave route bytes) h = cc

plain_alike : (x f : Fact) → AreAlike x f → is_secret f ≡ false → x ≡ f
plain_alike x f h e = sym (plain x (alike_same is_secret secret_blind x f h ∙ e)) ∙ h ∙ plain f e

-- A fact that is like the node's, and is the node's where this needs its bytes, is masked to the node's.
masked_back : (view : View) (x f : Fact) → AreAlike x f → masked_fact view f ≡ f → (is_secret f ≡ true → is_needed view f ≡ true → x ≡ f) → masked_fact view x ≡ f
masked_back view x f h same needed =
    ap (λ (t : Bool). if t then x else without_bytes x) (alike_same (is_needed view) (needed_blind view) x f h) ∙
    (elim (is_needed view f) as (λ t. is_needed view f ≡ t → (if t then f else without_bytes f) ≡ f → (if t then x else without_bytes x) ≡ f) [
      | true ↦ λ e k. elim (is_secret f) as (λ t. is_secret f ≡ t → x ≡ f) [ true ↦ λ e2. needed e2 e | false ↦ λ e2. plain_alike x f h e2 ] refl
      | false ↦ λ e k. h ∙ k
    ] refl same)

-- ---- ports

-- Each port is found by its lane.
abbrev ArePorts : List Port → List Port → Type 0
ArePorts qs ps = AllByRecursion (λ (p : Port). find (λ (q : Port). lane_eq q.lane p.lane) qs ≡ Some p) ps

lanes_back : (a c : Lane) → lane_eq a c ≡ false → lane_eq c a ≡ false
lanes_back a c h = not_false (lane_eq c a) (λ e. let is : c ≡ a = lane_eq_from c a e in let same : lane_eq a c ≡ true = ap (lane_eq a) is ∙ lane_same a in cc)

all_apart : (l : Lane) (ps : List Port) → list_any (λ k. lane_eq k l) (map lane_at ps) ≡ false → AllByRecursion (λ (p : Port). lane_eq l p.lane ≡ false) ps
all_apart l [] h = tt
all_apart l (p ∷ ps) h = (
  lanes_back p.lane l (or_first (lane_eq p.lane l) (list_any (λ k. lane_eq k l) (map lane_at ps)) h),
  all_apart l ps (or_second (lane_eq p.lane l) (list_any (λ k. lane_eq k l) (map lane_at ps)) h),
)

ports_found : (s : Site) (v : ℕ) (ps : List Port) → AreOutgoing s v (map lane_at ps) → ArePorts ps ps
ports_found s v [] h = tt
ports_found s v (p ∷ ps) h = (
  ap (λ (t : Bool). if t then Some p else find (λ (q : Port). lane_eq q.lane p.lane) ps) (lane_same p.lane),
  all_two (λ (q : Port). lane_eq p.lane q.lane ≡ false) (λ (q : Port). find (λ (r : Port). lane_eq r.lane q.lane) ps ≡ Some q)
      (λ (q : Port). find (λ (r : Port). lane_eq r.lane q.lane) (p ∷ ps) ≡ Some q)
      (λ q apart found. ap (λ (t : Bool). if t then Some p else find (λ (r : Port). lane_eq r.lane q.lane) ps) apart ∙ found) ps
      (all_apart p.lane ps h.1) (ports_found s v ps h.2),
)

all_leave : (s : Site) (v : ℕ) (ps : List Port) → AreOutgoing s v (map lane_at ps) → AllByRecursion (λ (p : Port). sender s p.lane ≡ v) ps
all_leave s v [] h = tt
all_leave s v (p ∷ ps) h = (h.0, all_leave s v ps h.2)

every : (ls : List Lane) → filter (λ l. true) ls ≡ ls
every [] = refl
every (l ∷ ls) = ap (λ (ks : List Lane). l ∷ ks) (every ls)

are_outgoing : (s : Site) (v : ℕ) → AreOutgoing s v (outgoing_lanes s v)
are_outgoing s v = subst (AreOutgoing s v) (every (outgoing_lanes s v)) (outgoing_each s v (λ l. true))

-- A port at whose lease a start goes on.
abbrev IsRested : Port → Type 0
IsRested p = at_lease p ≡ p

all_rested : (ps : List Port) → AllByRecursion IsRested (map at_lease ps)
all_rested [] = tt
all_rested (p ∷ ps) = (refl, all_rested ps)

-- ---- views

-- What a view of a node is, if a journal gives it back.
record IsNodeView (s : Site) (v : ℕ) (view : View) : Type 0 where
  me : view.me ≡ v
  lanes : map lane_at view.ports ≡ outgoing_lanes s v
  rested : AllByRecursion IsRested view.ports
  empty : view.volatile ≡ no_volatile

node_view : (s : Site) (v : ℕ) (batches : List (List Record)) → IsNodeView s v (recovered_view s v batches)
unfolding recovered_view view_restarted
node_view s v batches =
    let k = recovered_kept s v batches in
    record { me = k.me; lanes = k.lanes; rested = all_rested (view_batches (empty_view s v) batches).ports; empty = refl }

module _ (s : Site) (sealing : Sealing) (devices entropies : ℕ → OctetSequence) (views : List View) (read : AllRead views) (b : Belongs s devices views) (journals : ℕ → Journal) where
  abbrev net : Network
  net = kept_network s sealing devices entropies views

  abbrev w : World
  w = kept_world s views journals

  -- ---- facts

  abbrev bare : ℕ → View
  bare v = record {
    me = v;
    facts = facts_of (kept_table views) (known_in views v);
    acked = (view_in views v).acked;
    handed = handed_at s v (all_handed views);
    closed = (view_in views v).closed;
    ports = map (port_at net w) (outgoing_lanes s v);
    volatile = no_volatile;
  }

  bare_alike : (v : ℕ) → (view_in views v).me ≡ v → IsAlike (bare v) (view_in views v)
  bare_alike v me = record { me = sym me; acked = refl; handed = handed_here s devices views read b v; facts = facts_alike s devices views read b v }

  facts_back : (v : ℕ) → IsAlike (bare v) (view_in views v) → (fs : List Fact) → AllByRecursion (λ (f : Fact). fact_at (view_in views v).facts (name_of f) ≡ Some f) fs →
      AllByRecursion (λ (f : Fact). masked_fact (view_in views v) f ≡ f) fs → map (masked_fact (bare v)) (facts_of (kept_table views) (names_of fs)) ≡ fs
  facts_back v like [] h k = refl
  facts_back v like (f ∷ fs) h k =
      let here = kept_here s devices views read b v (name_of f) f h.0 in
      let one : masked_fact (bare v) here.fact ≡ f =
      masked_fact_alike (bare v) (view_in views v) here.fact like ∙
      masked_back (view_in views v) here.fact f here.alike k.0 (λ secret need.
      let there = kept_needed s devices views read b v (name_of f) f h.0 secret need in
      let same : Some here.fact ≡ Some f = sym here.there ∙ there in cc) in
      let rest = facts_back v like fs h.1 k.1 in
      ap (λ (o : Option Fact). map (masked_fact (bare v)) (cons_option o (facts_of (kept_table views) (names_of fs)))) here.there ∙ (λ i. one i ∷ rest i)

  facts_masked : (v : ℕ) → AllByRecursion (λ (f : Fact). masked_fact (view_in views v) f ≡ f) (view_in views v).facts
  unfolding masked
  facts_masked v = all_same (masked_fact (view_in views v)) (view_in views v).facts (ap (λ (x : View). x.facts) (read v).masked)

  -- ---- ports

  port_is : (v : ℕ) (p : Port) → sender s p.lane ≡ v → find (λ (q : Port). lane_eq q.lane p.lane) (view_in views v).ports ≡ Some p → kept_port s views p.lane ≡ p
  unfolding kept_port
  port_is v p leaves found = ap (λ (u : ℕ). port_or p.lane (find (λ (q : Port). lane_eq q.lane p.lane) (view_in views u).ports)) leaves ∙ ap (port_or p.lane) found

  port_back : (p q : Port) → kept_port s views p.lane ≡ q → q ≡ p → IsRested p → p.blocks ≡ first_blocks (devices p.lane.link) (length p.blocks) → port_at net w p.lane ≡ p
  unfolding kept_world kept_durable
  port_back p q is same rested front =
      let one : kept_port s views p.lane ≡ p = is ∙ same in
      let lease : (kept_port s views p.lane).lease ≡ p.lease = ap (λ (x : Port). x.lease) one in
      let blocks : first_blocks (devices p.lane.link) (length (kept_port s views p.lane).blocks) ≡ p.blocks =
      ap (λ (x : Port). first_blocks (devices p.lane.link) (length x.blocks)) one ∙ sym front in
      let planned : length (kept_owners (kept_port s views p.lane).lease) + 0 ≡ p.lease = omega (arith, owners_length (kept_port s views p.lane).lease, lease) in
      (λ i. record { lane = p.lane; blocks = blocks i; lease = lease i; planned = planned i; recovered = lease i }) ∙ rested

  abbrev IsFront : Port → Type 0
  IsFront p = p.blocks ≡ first_blocks (devices p.lane.link) (length p.blocks)

  fronts : (ps : List Port) → ((k : ℕ) (p : Port) → slice_get ps k ≡ Some p → IsFront p) → AllByRecursion IsFront ps
  fronts [] h = tt
  fronts (p ∷ ps) h = (h 0 p refl, fronts ps (λ k q e. h (suc k) q e))

  ports_back : (v : ℕ) (ps : List Port) → AllByRecursion (λ (p : Port). sender s p.lane ≡ v) ps → ArePorts (view_in views v).ports ps → AllByRecursion IsRested ps → AllByRecursion IsFront ps →
      map (port_at net w) (map lane_at ps) ≡ ps
  ports_back v [] leave found rested front = refl
  ports_back v (p ∷ ps) leave found rested front =
      let one = port_back p p (port_is v p leave.0 found.0) refl rested.0 front.0 in
      let rest = ports_back v ps leave.1 found.1 rested.1 front.1 in
      λ i. one i ∷ rest i

  -- ---- the view

  back_with : (v : ℕ) → IsNodeView s v (view_in views v) → view_of net w v ≡ view_in views v
  unfolding view_of kept_world kept_durable masked is_needed
  back_with v h =
      let view : View = view_in views v in
      let like = bare_alike v h.me in
      let facts = facts_back v like view.facts (read v).found (facts_masked v) in
      let handed = handed_here s devices views read b v in
      let outgoing : AreOutgoing s v (map lane_at view.ports) = subst (AreOutgoing s v) (sym h.lanes) (are_outgoing s v) in
      let ports : map (port_at net w) (outgoing_lanes s v) ≡ view.ports =
      ap (map (port_at net w)) (sym h.lanes) ∙
      ports_back v view.ports (all_leave s v view.ports outgoing) (ports_found s v view.ports outgoing) h.rested (fronts view.ports (b.blocks v)) in
      let me = sym h.me in
      let empty = sym h.empty in
      λ i. record { me = me i; facts = facts i; acked = view.acked; handed = handed i; closed = view.closed; ports = ports i; volatile = empty i }

module _ (s : Site) (sealing : Sealing) (devices entropies : ℕ → OctetSequence) (batches : ℕ → List (List Record)) (views : List View) (read : AreRead s batches views) (b : Belongs s devices views)
    (journals : ℕ → Journal) where
  pub given_back : (v : ℕ) → v < s.nodes → view_of (kept_network s sealing devices entropies views) (kept_world s views journals) v ≡ view_in views v
  given_back v less =
      back_with s sealing devices entropies views (is_read s batches views read) b journals v
      (subst (IsNodeView s v) (sym (view_read s batches views read v less)) (node_view s v (batches v)))

  journal_at : (v : ℕ) → (kept_world s views journals).journal v ≡ journals v
  unfolding kept_world
  journal_at v = refl

  pub kept_current : ((v : ℕ) → (journals v).version ≡ 2) → ((v : ℕ) → is_blank (journals v) ≡ true → batches v ≡ []) →
      AreCurrent (kept_network s sealing devices entropies views) (kept_world s views journals)
  kept_current versions blank = record {
    version = λ v. ap (λ (j : Journal). j.version) (journal_at v) ∙ versions v;
    unseen = λ v less none. given_back v less ∙ view_read s batches views read v less ∙ ap (recovered_view s v) (blank v (sym (ap is_blank (journal_at v)) ∙ none));
  }
