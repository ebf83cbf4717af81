-- Of two worlds in which each node sees the same, each has what the other one has.
use Rattle.std.proofs.Common.{◌≡◌, ℕ, ◌<◌, true, false, List, [], ◌∷◌, length, map, sym, ◌∙◌, ap, subst, Some, inl, inr}
use Rattle.std.specs.List.{list_any}
use Rattle.qkd_base.specs.Name.{Name, has}
use Rattle.qkd_base.specs.Lane.{lane_eq}
use Rattle.qkd_base.specs.declared.lane.Lane.{Lane}
use Rattle.net_model.specs.declared.fact.Fact.{Fact}
use Rattle.net_model.specs.Table.{fact_at, was_handed}
use Rattle.net_model.specs.Site.{Site, outgoing_lanes}
use Rattle.net_model.specs.World.{Network, World}
use Rattle.net_model.specs.View.{View, Port, handed_at}
use Rattle.net_model.specs.Needed.{is_needed, masked_fact, view_of, port_at}
use Rattle.net_model.specs.Handings.{MayHave}
use Rattle.net_model.specs.Invariant.{Conserved}
use Rattle.law_base.proofs.Base.{lane_eq_from, or_cases, not_both}
use Rattle.law_base.proofs.LaneBlocks.{count_blocks}
use Rattle.law_base.proofs.Seen.{bare_view, view_sees, view_me, handed_seen}
use Rattle.law_lives.specs.Belongs.{IsLike, NothingBehind}
use Rattle.law_lives.specs.SameViews.{SeeTheSame, HasAllOf}
use Rattle.law_lives.proofs.LikeFacts.{AreAlike}
use Rattle.law_lives.proofs.LikeTables.{IsThere, HasAll, part_moves, have_moves}
use Rattle.law_lives.proofs.Seeing.{handed_home, seen_as, shown_as, shown_needed, needed_as, view_acked, view_closed, view_handed, view_ports}
use Rattle.law_lives.proofs.WorldViews.{within_or_behind}

-- Who knows something is a node.
pub known_within : (net : Network) (w : World) → NothingBehind net w → (v : ℕ) (n : Name) → has (w.durable.known v) n ≡ true → v < net.site.nodes
known_within net w behind v n h = elim (within_or_behind v net.site.nodes) [
  | inl less ↦ less
  | inr past ↦ let none : has (w.durable.known v) n ≡ false = ap (λ (ns : List Name). has ns n) (behind v past) in absurd (not_both (has (w.durable.known v) n) h none)
]

-- Who may have a key is at home at a node.
home_knows : (s : Site) (facts : List Fact) (known : ℕ → List Name) (n : Name) (sae : ℕ) → MayHave s facts known n sae → (m : Name) × (has (known (s.home sae)) m ≡ true)
home_knows s facts known n sae (inl one) = (n, one.knows)
home_knows s facts known n sae (inr group) = elim group.is_end [
  | inl master ↦ (group.name, (master.1 group.name group.one).0)
  | inr slave ↦ (group.name, slave.1)
]

same_at : (F G : Lane → Port) (ls : List Lane) (l : Lane) → map F ls ≡ map G ls → list_any (λ k. lane_eq k l) ls ≡ true → F l ≡ G l
same_at F G [] l e h = cc
same_at F G (k ∷ ls) l e h =
    let first : F k ≡ G k = cc in
    let rest : map F ls ≡ map G ls = cc in
    elim (or_cases (lane_eq k l) (list_any (λ m. lane_eq m l) ls) h) [
      | inl here ↦ let is : k ≡ l = lane_eq_from k l here in subst (λ (m : Lane). F m ≡ G m) is first
      | inr later ↦ same_at F G ls l rest later
    ]

-- One way.
module _ (a b : Network) (v w : World) (c : Conserved a v) (behind : NothingBehind a v) (sees : (u : ℕ) → u < a.site.nodes → view_of b w u ≡ view_of a v u) where
  pub all_facts : HasAll v.durable.facts w.durable.facts
  all_facts n f h =
      let made = (c.now.table n f h).made in
      let less = known_within a v behind n.node n made in
      let shown = shown_as a v n.node n f h made in
      let x = seen_as b w n.node n (masked_fact (bare_view a v n.node) f) (ap (λ (y : View). fact_at y.facts n) (sees n.node less) ∙ shown) in
      let mine = seen_as a v n.node n (masked_fact (bare_view a v n.node) f) shown in
      let both : Some mine.fact ≡ Some f = sym mine.there ∙ h in
      let is : mine.fact ≡ f = cc in
      record { fact = x.fact; there = x.there; alike = sym x.alike ∙ subst (λ (y : Fact). AreAlike (masked_fact (bare_view a v n.node) f) y) is mine.alike }

  all_known : (u : ℕ) (n : Name) → has (v.durable.known u) n ≡ true → has (w.durable.known u) n ≡ true
  all_known u n h =
      let k = c.now.knowledge.each u n h in
      let less = known_within a v behind u n h in
      (seen_as b w u n (masked_fact (bare_view a v u) k.fact) (ap (λ (y : View). fact_at y.facts n) (sees u less) ∙ shown_as a v u n k.fact k.there h)).knows

  all_needed : (u : ℕ) (n : Name) (f : Fact) → fact_at v.durable.facts n ≡ Some f → has (v.durable.known u) n ≡ true → is_needed (view_of a v u) f ≡ true → fact_at w.durable.facts n ≡ Some f
  all_needed u n f h knows need =
      let less = known_within a v behind u n knows in
      let here = shown_needed a v u n f h knows need in
      let x = seen_as b w u n f (ap (λ (y : View). fact_at y.facts n) (sees u less) ∙ here) in
      let is = needed_as b w u n f x (ap (λ (y : View). is_needed y f) (sees u less) ∙ need) in
      x.there ∙ ap (λ (y : Fact). Some y) (sym is)

  all_acked : (u : ℕ) (n : Name) → u < a.site.nodes → has (v.durable.acked u) n ≡ true → has (w.durable.acked u) n ≡ true
  all_acked u n less h = ap (λ (ns : List Name). has ns n) (sym (view_acked b w u) ∙ ap (λ (y : View). y.acked) (sees u less) ∙ view_acked a v u) ∙ h

  all_closed : (u : ℕ) (n : Name) (sae : ℕ) → u < a.site.nodes → was_handed (v.durable.closed u) n sae ≡ true → was_handed (w.durable.closed u) n sae ≡ true
  all_closed u n sae less h =
      ap (λ (hs : List (Name × ℕ)). was_handed hs n sae) (sym (view_closed b w u) ∙ ap (λ (y : View). y.closed) (sees u less) ∙ view_closed a v u) ∙ h

  all_handed : (n : Name) (sae : ℕ) → was_handed v.durable.handed n sae ≡ true → was_handed w.durable.handed n sae ≡ true
  all_handed n sae h =
      let u : ℕ = a.site.home sae in
      let knows = home_knows a.site v.durable.facts v.durable.known n sae (c.now.handings.entitled n sae h) in
      let less = known_within a v behind (a.site.home sae) knows.0 knows.1 in
      let mine : was_handed (view_of a v (a.site.home sae)).handed n sae ≡ true =
      handed_seen a.site v.durable (view_of a v (a.site.home sae)) (bare_view a v (a.site.home sae)) (view_sees a v (a.site.home sae)) n sae (sym (view_me a v (a.site.home sae))) ∙ h in
      let other : was_handed (handed_at b.site (a.site.home sae) w.durable.handed) n sae ≡ true =
      ap (λ (hs : List (Name × ℕ)). was_handed hs n sae) (sym (view_handed b w (a.site.home sae)) ∙ ap (λ (y : View). y.handed) (sees (a.site.home sae) less)) ∙ mine in
      (handed_home b.site (a.site.home sae) w.durable.handed n sae other).1

  all_lanes : b.site ≡ a.site → (u : ℕ) (l : Lane) → u < a.site.nodes → list_any (λ k. lane_eq k l) (outgoing_lanes a.site u) ≡ true →
      (w.durable.blocks l ≡ v.durable.blocks l) × (w.durable.lease l ≡ v.durable.lease l)
  all_lanes site u l less h =
      let ports : map (port_at b w) (outgoing_lanes a.site u) ≡ map (port_at a v) (outgoing_lanes a.site u) =
      ap (λ (s : Site). map (port_at b w) (outgoing_lanes s u)) (sym site) ∙ sym (view_ports b w u) ∙ ap (λ (y : View). y.ports) (sees u less) ∙ view_ports a v u in
      let one : port_at b w l ≡ port_at a v l = same_at (port_at b w) (port_at a v) (outgoing_lanes a.site u) l ports h in (
        sym (count_blocks (b.device l.link) (w.durable.blocks l)) ∙ ap (λ (p : Port). length p.blocks) one ∙ count_blocks (a.device l.link) (v.durable.blocks l),
        ap (λ (p : Port). p.lease) one,
      )

pub like_there : (T : List Fact) (n : Name) (f : Fact) → IsThere T n f → IsLike f (fact_at T n)
like_there T n f h = subst (IsLike f) (sym h.there) (sym h.alike)

pub each_has_all : (a b : Network) (v w : World) → SeeTheSame a b v w → HasAllOf a v w
each_has_all a b v w h =
    let back : HasAll w.durable.facts v.durable.facts =
    all_facts b a w v h.second h.second_behind (λ u less. sym (h.sees u (subst (λ (s : Site). u < s.nodes) h.site less))) in
    let there : HasAll v.durable.facts w.durable.facts = all_facts a b v w h.first h.first_behind h.sees in
    record {
      facts = λ n f at. like_there w.durable.facts n f (there n f at);
      needed = all_needed a b v w h.first h.first_behind h.sees;
      known = all_known a b v w h.first h.first_behind h.sees;
      acked = all_acked a b v w h.first h.first_behind h.sees;
      closed = all_closed a b v w h.first h.first_behind h.sees;
      handed = all_handed a b v w h.first h.first_behind h.sees;
      ready = λ n sae may. have_moves v.durable.facts w.durable.facts there v.durable.known w.durable.known (all_known a b v w h.first h.first_behind h.sees) a.site n sae
          (part_moves w.durable.facts v.durable.facts back n) may;
      lanes = all_lanes a b v w h.first h.first_behind h.sees h.site;
    }

-- The relation goes both ways.
pub same_back : (a b : Network) (v w : World) → SeeTheSame a b v w → SeeTheSame b a w v
same_back a b v w h = record {
  first = h.second;
  second = h.first;
  first_behind = h.second_behind;
  second_behind = h.first_behind;
  site = sym h.site;
  sees = λ u less. sym (h.sees u (subst (λ (s : Site). u < s.nodes) h.site less));
}
