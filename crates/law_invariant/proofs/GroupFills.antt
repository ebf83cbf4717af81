-- Filling a pool of group keys makes new keys with all their parts.
use Rattle.std.proofs.Common.{not, ◌≡◌, ℕ, zero, suc, ◌+◌, ◌/◌, ◌<◌, ◌≤◌, ◌^◌, Bool, true, false, List, [], ◌∷◌, ◌++◌, length, refl, sym, ◌∙◌, ap, subst, arith, Option, Some, None, inl, inr, take, drop}
use Rattle.std.specs.Prelude.{◌==◌, nat_lt}
use Rattle.std.specs.List.{list_all}
use Rattle.std.proofs.lemmas.Bool.Decides.{nat_tests}
use Rattle.qkd_base.specs.Name.{Name}
use Rattle.qkd_base.specs.declared.key_name.NameKind.TheVariants.{Key as KeyKind}
use Rattle.qkd_base.specs.declared.lane.Lane.{Lane}
use Rattle.net_model.specs.declared.fact.Fact.{Fact}
use Rattle.net_model.specs.declared.record.Record.{Record}
use Rattle.net_model.specs.declared.reply.Reply.TheVariants.{MadeKeys}
use Rattle.net_model.specs.Facts.{IsSize}
use Rattle.net_model.specs.Table.{fact_at, was_handed}
use Rattle.net_model.specs.Site.{Site}
use Rattle.net_model.specs.Routes.{route}
use Rattle.net_model.specs.World.{Durable, Allocation, Transmission}
use Rattle.net_model.specs.Records.{replay}
use Rattle.net_model.specs.Handings.{MayHave}
use Rattle.net_model.specs.Invariant.{Invariant}
use Rattle.net_model.specs.Doubt.{MayReplay}
use Rattle.net_model.specs.Decision.{last_count, fresh_name}
use Rattle.net_model.specs.Events.{is_rising}
use Rattle.net_model.specs.Groups.{new_parts, new_groups, with_route, routes_to, filled_group, unhanded_group, is_entitled_group, fill_group}
use Rattle.net_model.specs.Streams.{is_size}
use Rattle.net_model.specs.Premises.{IsSite}
use Rattle.net_model.specs.View.{View}
use Rattle.net_model.specs.Handle.{is_numbered}
use Rattle.law_base.proofs.Base.{eq_from, and_left, and_right, and_both, not_false, not_true}
use Rattle.law_base.proofs.Shortest.{route_is}
use Rattle.law_base.proofs.Seen.{Sees}
use Rattle.law_invariant.proofs.Supply.{Supply, bytes_len, bytes_octets, size_is}
use Rattle.law_invariant.proofs.Made.{IsBelow, is_below, below_weaker}
use Rattle.law_invariant.specs.Only.{Only}
use Rattle.law_invariant.proofs.Only.{only_makes, only_either, replay_append, fresh_is}
use Rattle.law_invariant.proofs.Parts.{AllRoutes, Ascends, IsBegun, new_parts_may, below_parts, handed_parts}

-- No name of this node with a greater count was handed to an application here.
abbrev pub IsFreshAbove : Site → Durable → ℕ → ℕ → Type 0
IsFreshAbove s d v c = (n : Name) → n.node ≡ v → c < n.count → (sae : ℕ) → s.home sae ≡ v → was_handed d.handed n sae ≡ false

fresh_here : (s : Site) (d : Durable) (frames : Lane → List Allocation) (unclaimed : Lane → List Transmission) → Invariant s d frames unclaimed → (v c : ℕ) →
    IsBelow d v c → IsFreshAbove s d v c
fresh_here s d frames unclaimed inv v c b n at above sae home = not_false (was_handed d.handed n sae) (λ e. no (inv.handings.entitled n sae e))
  where
    no : MayHave s d.facts d.known n sae → ⊥
    no (inl one) = let x = b.table n one.fact one.there at in absurd (omega arith)
    no (inr g) =
        let own : g.one.part.key.node ≡ v = ap (λ (m : Name). m.node) g.one.key ∙ at in
        let maker : g.name.node ≡ v =
        (inv.table g.name g.one.fact g.one.there).maker ∙ sym (inv.groups.own g.name g.one.fact g.one.part g.one.there g.one.is).0 ∙ own in
        let x = b.keys g.name g.one.fact g.one.part g.one.there g.one.is maker own in
        let y = ap (λ (m : Name). m.count) g.one.key in
        absurd (omega arith)

-- No part was made yet under a name whose count is above all that the node gave.
begun_new : (s : Site) (d : Durable) (v c m : ℕ) (key : Name) (bytes : List ℕ) → key.node ≡ v → c < key.count → IsBelow d v c → IsFreshAbove s d v c →
    IsBegun s d v key m 0 bytes
begun_new s d v c m key bytes at above b fresh =
    record {
      free = free (fact_at d.facts key) refl;
      earlier = λ n g q node there is same.
          let own : q.key.node ≡ v = ap (λ (x : Name). x.node) same ∙ at in
          let x = b.keys n g q there is node own in
          let y = ap (λ (x : Name). x.count) same in
          absurd (omega arith);
      unhanded = fresh key at above;
    }
  where
    free : (o : Option Fact) → fact_at d.facts key ≡ o → fact_at d.facts key ≡ None
    free None e = e
    free (Some g) e = let y = b.table key g e at in absurd (omega arith)

-- Each slave has a route.

pub record AreRoutes (s : Site) (me m from : ℕ) (routes : List (ℕ × List ℕ)) : Type 0 where
  pub all : AllRoutes s me m routes
  pub order : Ascends from routes

abbrev pub rises_from : ℕ → List ℕ → Type 0
rises_from from [] = Unit {0}
rises_from from (t ∷ ts) = (from ≤ t) × rises_from (t + 1) ts

rising : (from t : ℕ) (ts : List ℕ) → from ≤ t → is_rising (t ∷ ts) ≡ true → rises_from from (t ∷ ts)
rising from t [] le h = (le, tt)
rising from t (u ∷ ts) le h =
    let first : nat_lt t u ≡ true = and_left (nat_lt t u) (is_rising (u ∷ ts)) h in
    let above : t + 1 ≤ u = next t u first in
    (le, rising (t + 1) u ts above (and_right (nat_lt t u) (is_rising (u ∷ ts)) h))
  where
    next : (t u : ℕ) → nat_lt t u ≡ true → t + 1 ≤ u
    next t u h = grind (arith, nat_tests)

pub rises : (ts : List ℕ) → is_rising ts ≡ true → rises_from 0 ts
rises [] h = tt
rises (t ∷ ts) h = rising 0 t ts (omega arith) h

ways_are : (s : Site) (up : ℕ → Bool) (me m from : ℕ) (slaves : List ℕ) (routes : List (ℕ × List ℕ)) → IsSite s → me < s.nodes → routes_to s up me slaves ≡ Some routes →
    list_all (λ t. s.allowed m t) slaves ≡ true → rises_from from slaves → AreRoutes s me m from routes
ways_are s up me m from [] routes site here h k r = let is : [] ≡ routes = cc in subst (AreRoutes s me m from) is (record { all = tt; order = tt })
ways_are s up me m from (t ∷ ts) routes site here h k r =
    elim (route s up me (s.home t)) as (λ o. route s up me (s.home t) ≡ o → with_route t o (routes_to s up me ts) ≡ Some routes → AreRoutes s me m from routes) [
      | None ↦ λ e x. cc
      | Some nodes ↦ λ e. elim (routes_to s up me ts) as (λ p. routes_to s up me ts ≡ p → with_route t (Some nodes) p ≡ Some routes → AreRoutes s me m from routes) [
        | None ↦ λ e2 x. cc
        | Some rest ↦ λ e2 x.
            let is : ((t, nodes) ∷ rest) ≡ routes = cc in
            let later = ways_are s up me m (t + 1) ts rest site here e2 (and_right (s.allowed m t) (list_all (λ u. s.allowed m u) ts) k) r.1 in
            subst (AreRoutes s me m from) is (record {
              all = (and_left (s.allowed m t) (list_all (λ u. s.allowed m u) ts) k, route_is s up me (s.home t) nodes site.nodes here e, later.all);
              order = (r.0, later.order);
            })
      ] refl
    ] refl h

ways_len : (s : Site) (up : ℕ → Bool) (me : ℕ) (slaves : List ℕ) (routes : List (ℕ × List ℕ)) → routes_to s up me slaves ≡ Some routes → length routes ≡ length slaves
ways_len s up me [] routes h = let is : [] ≡ routes = cc in ap length (sym is)
ways_len s up me (t ∷ ts) routes h =
    elim (route s up me (s.home t)) as (λ o. with_route t o (routes_to s up me ts) ≡ Some routes → length routes ≡ suc (length ts)) [
      | None ↦ λ x. cc
      | Some nodes ↦ λ x. elim (routes_to s up me ts) as (λ p. routes_to s up me ts ≡ p → with_route t (Some nodes) p ≡ Some routes → length routes ≡ suc (length ts)) [
        | None ↦ λ e2 y. cc
        | Some rest ↦ λ e2 y. let is : ((t, nodes) ∷ rest) ≡ routes = cc in sym (ap length is) ∙ ap suc (ways_len s up me ts rest e2)
      ] refl x
    ] h

numbered_append : (xs ys : List Record) → list_all is_numbered (xs ++ ys) ≡ true → (list_all is_numbered xs ≡ true) × (list_all is_numbered ys ≡ true)
numbered_append [] ys h = (refl, h)
numbered_append (x ∷ xs) ys h =
    let r = numbered_append xs ys (and_right (is_numbered x) (list_all is_numbered (xs ++ ys)) h) in
    (and_both (is_numbered x) (list_all is_numbered xs) (and_left (is_numbered x) (list_all is_numbered (xs ++ ys)) h) r.0, r.1)

-- If the name of the first part is in range, so is the group key's.
key_named : (see : View) (key : Name) (m more : ℕ) (routes : List (ℕ × List ℕ)) (bytes : List ℕ) → 0 < length routes →
    list_all is_numbered (new_parts see key m routes bytes more) ≡ true → nat_lt (fresh_name see KeyKind more).count (2 ^ 48) ≡ true
key_named see key m more [] bytes some h = absurd (omega arith)
key_named see key m more (x ∷ xs) bytes some h = and_left (nat_lt (fresh_name see KeyKind more).count (2 ^ 48)) (list_all is_numbered (new_parts see key m xs bytes (more + 1))) h

new_groups_may : (s : Site) (d : Durable) (see : View) (octet : ℕ → ℕ) (place m : ℕ) (routes : List (ℕ × List ℕ)) (size more n : ℕ) (random : List ℕ) → IsSite s → see.me < 16 →
    s.home m ≡ see.me → IsSize size → 0 < length routes → AreRoutes s see.me m 0 routes → ((i : ℕ) → octet i < 256) → Supply octet place size n random →
    IsFreshAbove s d see.me (last_count see.me see.facts + more) → IsBelow d see.me (last_count see.me see.facts + more) →
    list_all is_numbered (new_groups see m routes size random more n) ≡ true → MayReplay s d see.me (new_groups see m routes size random more n)
new_groups_may s d see octet place m routes size more zero random site low home big some r small from fresh b numbered = tt
new_groups_may s d see octet place m routes size more (suc n) random site low home big some r small from fresh b numbered =
    let base : ℕ = last_count see.me see.facts in
    let key : Name = fresh_name see KeyKind more in
    let bytes : List ℕ = take size random in
    let batch : List Record = new_parts see key m routes bytes (more + 1) in
    let d' : Durable = replay s see.me batch d in
    let above : base + more < (fresh_name see KeyKind more).count = omega arith in
    let count : (fresh_name see KeyKind more).count ≤ base + (more + 1) = omega arith in
    let le : base + more ≤ base + (more + 1) = omega arith in
    let further : base + more ≤ base + (more + 1 + length routes) = omega arith in
    let both = numbered_append batch (new_groups see m routes size (drop size random) (more + 1 + length routes) n) numbered in
    let part_ok = key_named see key m (more + 1) routes bytes some both.0 in
    let key_ok : nat_lt (fresh_name see KeyKind more).count (2 ^ 48) ≡ true = lower see more part_ok in
    let b1 : IsBelow d see.me (base + (more + 1)) = below_weaker d see.me (base + more) (base + (more + 1)) le b in
    replay_append s d see.me batch _
    (new_parts_may s d see key m 0 routes bytes (more + 1) site low home refl refl (fresh_is see KeyKind more low key_ok) count
    (subst IsSize (sym (bytes_len octet place size bytes from.0)) big) (bytes_octets octet small place size bytes from.0) r.all r.order
    (begun_new s d see.me (base + more) m key bytes refl above b fresh) b1 both.0)
    (new_groups_may s d' see octet (place + size) m routes size (more + 1 + length routes) n (drop size random) site low home big some r small from.1
    (λ x node over sae at. ap (λ (hs : List (Name × ℕ)). was_handed hs x sae) (handed_parts s d see key m routes bytes (more + 1)) ∙ fresh x node (omega (arith, over, further)) sae at)
    (below_parts s d see key m routes bytes (more + 1) count b1) both.1)
  where
    lower : (see : View) (more : ℕ) → nat_lt (fresh_name see KeyKind (more + 1)).count (2 ^ 48) ≡ true → nat_lt (fresh_name see KeyKind more).count (2 ^ 48) ≡ true
    lower see more h = grind (arith, nat_tests)

module _ (s : Site) (d : Durable) (frames : Lane → List Allocation) (unclaimed : Lane → List Transmission) (inv : Invariant s d frames unclaimed) (see bare : View)
    (h : Sees s d see bare) (site : IsSite s) (here : see.me < s.nodes) where
  filled_group_may : (octet : ℕ → ℕ) (place m : ℕ) (slaves : List ℕ) (bits count : ℕ) (random : List ℕ) (o : Option (List (ℕ × List ℕ))) → is_size bits ≡ true →
      s.home m ≡ see.me → ((i : ℕ) → octet i < 256) → Supply octet place (bits / 8) count random →
      ((routes : List (ℕ × List ℕ)) → o ≡ Some routes → AreRoutes s see.me m 0 routes × (0 < length routes)) → Only s d see (filled_group see m slaves bits count random o)
  filled_group_may octet place m slaves bits count random None big home small from r = tt
  filled_group_may octet place m slaves bits count random (Some routes) big home small from r =
      only_either s d see (nat_lt 4096 (unhanded_group see m slaves bits + count)) _ _ (λ e. tt) (λ e.
      only_makes s d see (new_groups see m routes (bits / 8) random 0 count) (MadeKeys count (fresh_name see KeyKind 0)) (λ numbered.
      let zero' : last_count see.me see.facts ≡ last_count see.me see.facts + 0 = omega arith in
      let b = subst (λ (y : ℕ). IsBelow d see.me y) zero' (is_below s d frames unclaimed inv see bare h) in
      let x = r routes refl in
      new_groups_may s d see octet place m routes (bits / 8) 0 count random site (omega (arith, here, site.nodes)) home (size_is bits big) x.1 x.0 small from
      (fresh_here s d frames unclaimed inv see.me (last_count see.me see.facts + 0) b) b numbered))

  pub fill_group_may : (up : ℕ → Bool) (octet : ℕ → ℕ) (place m : ℕ) (slaves : List ℕ) (bits count : ℕ) (random : List ℕ) → is_size bits ≡ true → 0 < length slaves →
      is_rising slaves ≡ true → ((i : ℕ) → octet i < 256) → Supply octet place (bits / 8) count random → Only s d see (fill_group s up see m slaves bits count random)
  unfolding fill_group
  fill_group_may up octet place m slaves bits count random big some rise small from =
      only_either s d see (not (is_entitled_group s see m slaves)) _ _ (λ e. tt) (λ e.
      let ok = not_true (is_entitled_group s see m slaves) e in
      let home : s.home m ≡ see.me = eq_from (s.home m) see.me (and_left (s.home m == see.me) (list_all (λ t. s.allowed m t) slaves) ok) in
      let allowed = and_right (s.home m == see.me) (list_all (λ t. s.allowed m t) slaves) ok in
      filled_group_may octet place m slaves bits count random (routes_to s up see.me slaves) big home small from (λ routes y. (
        ways_are s up see.me m 0 slaves routes site here y allowed (rises slaves rise),
        omega (arith, ways_len s up see.me slaves routes y, some),
      )))
