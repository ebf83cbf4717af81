-- A key or chunk whose bytes no node needs was handed to both its ends.
use Rattle.std.proofs.Common.{◌≡◌, ℕ, zero, suc, ◌<◌, Bool, true, false, not, ◌&&◌, List, length, refl, sym, ◌∙◌, ap, subst, arith, Option, Some, None, ◌⊎◌, inl, inr}
use Rattle.std.specs.Prelude.{◌==◌, is_some, if◌then◌else◌, find, nat_le}
use Rattle.qkd_base.specs.Name.{Name, name_eq, has}
use Rattle.qkd_base.specs.Route.{is_distinct, next_after}
use Rattle.net_model.specs.declared.fact.Fact.{Fact}
use Rattle.net_model.specs.declared.fact.Fact.TheVariants.{Key, Chunk, Stored, Open, Joined, Part}
use Rattle.net_model.specs.Ranges.{IsRoute}
use Rattle.net_model.specs.Table.{PartOf, part_of, name_of, route_of, origin, target, is_secret, without_bytes, fact_at, was_handed, stream_end, sae_at}
use Rattle.net_model.specs.World.{Network, World, Durable}
use Rattle.net_model.specs.View.{View}
use Rattle.net_model.specs.Needed.{is_owed, has_it, end_needs, is_needed, masked_fact, view_of}
use Rattle.net_model.specs.Knowledge.{IsOpenBetween, IsEntitled}
use Rattle.net_model.specs.Handings.{is_single}
use Rattle.net_model.specs.Invariant.{Conserved}
use Rattle.law_base.proofs.Base.{and_left, and_right, and_both, or_first, or_second, name_eq_from, name_eq_same, eq_same, eq_from, not_false, not_both, not_true}
use Rattle.law_base.proofs.Blind.{shape_blind, needed_blind}
use Rattle.law_base.proofs.Masked.{masked_same}
use Rattle.law_base.proofs.Seen.{bare_view, view_sees, view_me, seen_found, some_found}
use Rattle.law_base.proofs.Tables.{found_name}
use Rattle.law_invariant.specs.HandedName.{handed_name}
use Rattle.law_invariant.proofs.Made.{ranged_route}
use Rattle.law_quiet.proofs.Routes.{reaches_all, last_on, ends_differ}
use Rattle.law_lives.specs.Belongs.{is_needed_as, NothingBehind}
use Rattle.law_lives.proofs.LikeFacts.{AreAlike, alike_same, handed_blind, secret_blind, part_key, part_secret}
use Rattle.law_lives.proofs.LikeTables.{HasAll, sae_moves}
use Rattle.law_lives.proofs.SameViews.{known_within}
use Rattle.law_lives.proofs.Seeing.{handed_home, IsSeenAs, seen_as, shown_as, needed_as, view_acked, view_handed}

-- both ends of the key or chunk of this name have got it
abbrev pub IsAllHanded : Durable → Name → Type 0
IsAllHanded d n = (at_first : Bool) (f : Fact) (sae : ℕ) → fact_at d.facts n ≡ Some f → sae_at d.facts at_first f ≡ Some sae → was_handed d.handed n sae ≡ true

-- the master and all slaves of the group key of this name have got it
abbrev pub IsGroupHanded : Durable → Name → Type 0
IsGroupHanded d n = (k : Name) (f : Fact) (p : PartOf) → fact_at d.facts k ≡ Some f → part_of f ≡ Some p → p.key ≡ n →
    (was_handed d.handed n p.master ≡ true) × (was_handed d.handed n p.slave ≡ true)

-- ---- keys and chunks

pub single_secret : (f : Fact) → is_single f ≡ true → is_secret f ≡ true
single_secret (Key name master slave route bytes) h = refl
single_secret (Chunk name stream index route bytes) h = refl
single_secret (Stored note about route) h = cc
single_secret (Open stream source peer size route) h = cc
single_secret (Joined note about route) h = cc
single_secret (Part name key master slave route bytes) h = cc

single_part : (f : Fact) → is_single f ≡ true → part_of f ≡ None
single_part (Key name master slave route bytes) h = refl
single_part (Chunk name stream index route bytes) h = refl
single_part (Stored note about route) h = cc
single_part (Open stream source peer size route) h = cc
single_part (Joined note about route) h = cc
single_part (Part name key master slave route bytes) h = cc

pub single_name : (f : Fact) → is_single f ≡ true → handed_name f ≡ name_of f
single_name (Key name master slave route bytes) h = refl
single_name (Chunk name stream index route bytes) h = refl
single_name (Stored note about route) h = cc
single_name (Open stream source peer size route) h = cc
single_name (Joined note about route) h = cc
single_name (Part name key master slave route bytes) h = cc

end_some : (nodes : List ℕ) (at_first : Bool) (o : Option Fact) → IsOpenBetween nodes o → (sae : ℕ) × (stream_end at_first o ≡ Some sae)
end_some nodes at_first None h = absurd h
end_some nodes at_first (Some (Key name master slave route bytes)) h = absurd h
end_some nodes at_first (Some (Chunk name stream index route bytes)) h = absurd h
end_some nodes at_first (Some (Stored note about route)) h = absurd h
end_some nodes at_first (Some (Open stream source peer size route)) h = (if at_first then source else peer, refl)
end_some nodes at_first (Some (Joined note about route)) h = absurd h
end_some nodes at_first (Some (Part name key master slave route bytes)) h = absurd h

-- A key or chunk has an application at each end.
sae_some : (net : Network) (w : World) → Conserved net w → (n : Name) (f : Fact) → fact_at w.durable.facts n ≡ Some f → is_single f ≡ true → (at_first : Bool) →
    (sae : ℕ) × (sae_at w.durable.facts at_first f ≡ Some sae)
sae_some net w c n f at single at_first = of f single (c.now.table n f at).entitled
  where
    of : (g : Fact) → is_single g ≡ true → IsEntitled net.site w.durable.facts g → (sae : ℕ) × (sae_at w.durable.facts at_first g ≡ Some sae)
    of (Key name master slave route bytes) h e = (if at_first then master else slave, refl)
    of (Chunk name stream index route bytes) h e = end_some route at_first (fact_at w.durable.facts stream) e
    of (Stored note about route) h e = cc
    of (Open stream source peer size route) h e = cc
    of (Joined note about route) h e = cc
    of (Part name key master slave route bytes) h e = cc

all_exact : (T U : List Fact) → ((n : Name) (f : Fact) → fact_at T n ≡ Some f → fact_at U n ≡ Some f) → HasAll T U
all_exact T U h n f at = record { fact = f; there = h n f at; alike = refl }

-- Who is at an end in a later table is so in the earlier one.
pub same_end : (net : Network) (w : World) → Conserved net w → (U : List Fact) → ((n : Name) (f : Fact) → fact_at w.durable.facts n ≡ Some f → fact_at U n ≡ Some f) →
    (n : Name) (f : Fact) → fact_at w.durable.facts n ≡ Some f → is_single f ≡ true → (at_first : Bool) (sae : ℕ) → sae_at U at_first f ≡ Some sae →
    sae_at w.durable.facts at_first f ≡ Some sae
same_end net w c U more n f at single at_first sae h =
    let r = sae_some net w c n f at single at_first in
    let there : sae_at U at_first f ≡ Some r.0 = sae_moves w.durable.facts U (all_exact w.durable.facts U more) at_first f f r.0 refl r.1 in
    let both : Some r.0 ≡ Some sae = sym there ∙ h in
    r.1 ∙ both

-- ---- needs

-- Some node needs the bytes of this name.
pub record IsNeededAt (net : Network) (w : World) (m : Name) : Type 0 where
  pub node : ℕ
  pub name : Name
  pub fact : Fact
  pub there : fact_at w.durable.facts name ≡ Some fact
  pub knows : has (w.durable.known node) name ≡ true
  pub secret : is_secret fact ≡ true
  pub named : handed_name fact ≡ m
  pub need : is_needed (view_of net w node) fact ≡ true

abbrev pub IsUnneededAt : Network → World → Name → ℕ → Type 0
IsUnneededAt net w m u = (k : Name) (g : Fact) → fact_at w.durable.facts k ≡ Some g → has (w.durable.known u) k ≡ true → is_secret g ≡ true → handed_name g ≡ m →
    is_needed (view_of net w u) g ≡ false

module _ (net : Network) (w : World) (m : Name) where
  search_at : (u : ℕ) → IsNeededAt net w m ⊎ IsUnneededAt net w m u
  search_at u = elim (find (is_needed_as (view_of net w u) m) (view_of net w u).facts) as (λ o. find (is_needed_as (view_of net w u) m) (view_of net w u).facts ≡ o →
      IsNeededAt net w m ⊎ IsUnneededAt net w m u) [
        | Some g ↦ λ e. inl (found u g e)
        | None ↦ λ e. inr (λ k g at knows secret named. none u e k g at knows secret named)
      ] refl
    where
      found : (v : ℕ) (g : Fact) → find (is_needed_as (view_of net w v) m) (view_of net w v).facts ≡ Some g → IsNeededAt net w m
      found v g e =
          let r = seen_found net.site w.durable (view_of net w v) (bare_view net w v) (view_sees net w v) (is_needed_as (view_of net w v) m) g e in
          let x = r.1 in
          let both = and_left (is_secret g && name_eq (handed_name g) m) (is_needed (view_of net w v) g) r.0 in
          let need = and_right (is_secret g && name_eq (handed_name g) m) (is_needed (view_of net w v) g) r.0 in
          let knows : has (w.durable.known v) (name_of g) ≡ true = ap (λ (u : ℕ). has (w.durable.known u) (name_of g)) (sym (view_me net w v)) ∙ x.knows in
          let seen : IsSeenAs net w v (name_of g) g =
          record { fact = x.fact; there = x.there; knows = knows; alike = ap without_bytes x.is ∙ masked_same without_bytes shape_blind (bare_view net w v) x.fact; is = x.is } in
          let is : g ≡ x.fact = needed_as net w v (name_of g) g seen need in
          record {
            node = v;
            name = name_of g;
            fact = x.fact;
            there = x.there;
            knows = knows;
            secret = ap is_secret (sym is) ∙ and_left (is_secret g) (name_eq (handed_name g) m) both;
            named = ap handed_name (sym is) ∙ name_eq_from (handed_name g) m (and_right (is_secret g) (name_eq (handed_name g) m) both);
            need = ap (is_needed (view_of net w v)) (sym is) ∙ need;
          }

      none : (v : ℕ) → find (is_needed_as (view_of net w v) m) (view_of net w v).facts ≡ None → IsUnneededAt net w m v
      none v e k g at knows secret named = not_false (is_needed (view_of net w v) g) (λ need.
          let x : Fact = masked_fact (bare_view net w v) g in
          let like : AreAlike (masked_fact (bare_view net w v) g) g = masked_same without_bytes shape_blind (bare_view net w v) g in
          let passes : is_needed_as (view_of net w v) m (masked_fact (bare_view net w v) g) ≡ true =
          and_both (is_secret x && name_eq (handed_name x) m) (is_needed (view_of net w v) x)
          (and_both (is_secret x) (name_eq (handed_name x) m) (alike_same is_secret secret_blind x g like ∙ secret)
          (ap (λ (y : Name). name_eq y m) (alike_same handed_name handed_blind x g like ∙ named) ∙ name_eq_same m))
          (alike_same (is_needed (view_of net w v)) (needed_blind (view_of net w v)) x g like ∙ need) in
          let some = some_found (is_needed_as (view_of net w v) m) (λ y. name_eq (name_of y) k) (view_of net w v).facts (masked_fact (bare_view net w v) g) (shown_as net w v k g at knows) passes in
          not_both (is_some (find (is_needed_as (view_of net w v) m) (view_of net w v).facts)) some (ap is_some e))

  search_below : (nodes : ℕ) → IsNeededAt net w m ⊎ ((u : ℕ) → u < nodes → IsUnneededAt net w m u)
  search_below zero = inr (λ u less. absurd (omega (arith, less)))
  search_below (suc nodes) = elim (search_at nodes) [
    | inl found ↦ inl found
    | inr none ↦ elim (search_below nodes) [
      | inl found ↦ inl found
      | inr others ↦ inr (λ u less. elim (below_or_at u nodes less) [ inl before ↦ others u before | inr at ↦ subst (IsUnneededAt net w m) (sym at) none ])
    ]
  ]
    where
      below_or_at : (u n : ℕ) → u < suc n → (u < n) ⊎ (u ≡ n)
      below_or_at u n h = grind arith

  pub search : IsNeededAt net w m ⊎ ((u : ℕ) → u < net.site.nodes → IsUnneededAt net w m u)
  search = search_below net.site.nodes

-- ---- a secret that nobody needs

module _ (net : Network) (w : World) (c : Conserved net w) (behind : NothingBehind net w) (n : Name) (f : Fact) (at : fact_at w.durable.facts n ≡ Some f) (secret : is_secret f ≡ true)
    (nowhere : (u : ℕ) → u < net.site.nodes → IsUnneededAt net w (handed_name f) u) where
  unneeded : (u : ℕ) → has (w.durable.known u) n ≡ true → is_needed (view_of net w u) f ≡ false
  unneeded u knows = nowhere u (known_within net w behind u n knows) n f at knows secret refl

  unowed : (u : ℕ) → has (w.durable.known u) n ≡ true → is_owed (view_of net w u) f ≡ false
  unfolding is_needed
  unowed u knows = or_first (is_owed (view_of net w u) f) _ (unneeded u knows)

  route : IsRoute (route_of f)
  route = ranged_route f (c.now.table n f at).ranged

  onward : (u v : ℕ) → next_after (route_of f) u ≡ Some v → has (w.durable.known u) n ≡ true → has (w.durable.known v) n ≡ true
  onward u v next knows =
      let named = found_name w.durable.facts n f at in
      let more : is_some (next_after (route_of f) (view_of net w u).me) ≡ true = ap (λ (x : ℕ). is_some (next_after (route_of f) x)) (view_me net w u) ∙ ap is_some next in
      let no : (is_some (next_after (route_of f) (view_of net w u).me) && not (has (view_of net w u).acked (name_of f))) ≡ false = unowed u knows in
      let acked : has (view_of net w u).acked (name_of f) ≡ true = not_true (has (view_of net w u).acked (name_of f)) (sym (ap (λ (t : Bool). t && not (has (view_of net w u).acked (name_of f))) more) ∙ no) in
      let mine : has (w.durable.acked u) n ≡ true = ap (λ (ns : List Name). has ns n) (sym (view_acked net w u)) ∙ ap (has (view_of net w u).acked) (sym named) ∙ acked in
      let r = c.now.marked u n mine in
      let a = r.1 in
      let same : Some a.fact ≡ Some f = sym a.there ∙ at in
      let is : a.fact ≡ f = cc in
      let to : Some r.0 ≡ Some v = sym a.next ∙ ap (λ (x : Fact). next_after (route_of x) u) is ∙ next in
      let one : r.0 ≡ v = cc in
      subst (λ (x : ℕ). has (w.durable.known x) n ≡ true) one a.knows

  origin_knows : has (w.durable.known (origin f)) n ≡ true
  origin_knows = let k = c.now.table n f at in subst (λ (u : ℕ). has (w.durable.known u) n ≡ true) k.maker k.made

  target_knows : has (w.durable.known (target f)) n ≡ true
  target_knows =
      let distinct = and_right (nat_le 2 (length (route_of f)) && nat_le (length (route_of f)) 9) (is_distinct (route_of f)) route.0 in
      reaches_all (λ u. has (w.durable.known u) n) (route_of f) distinct onward origin_knows (target f) (last_on (route_of f) route.0)

  first_end : end_needs (view_of net w (origin f)) true f (part_of f) ≡ false
  unfolding is_needed
  first_end =
      let v : View = view_of net w (origin f) in
      let here : (origin f == v.me) ≡ true = ap (λ (x : ℕ). origin f == x) (view_me net w (origin f)) ∙ eq_same (origin f) in
      let no = or_second (is_owed v f) (if origin f == v.me then end_needs v true f (part_of f) else if target f == v.me then end_needs v false f (part_of f) else false) (unneeded (origin f) origin_knows) in
      sym (ap (λ (t : Bool). if t then end_needs v true f (part_of f) else if target f == v.me then end_needs v false f (part_of f) else false) here) ∙ no

  last_end : end_needs (view_of net w (target f)) false f (part_of f) ≡ false
  unfolding is_needed
  last_end =
      let v : View = view_of net w (target f) in
      let me = view_me net w (target f) in
      let away : (origin f == v.me) ≡ false = not_false (origin f == v.me) (λ e. ends_differ (route_of f) route.0 (eq_from (origin f) v.me e ∙ me)) in
      let here : (target f == v.me) ≡ true = ap (λ (x : ℕ). target f == x) me ∙ eq_same (target f) in
      let no = or_second (is_owed v f) (if origin f == v.me then end_needs v true f (part_of f) else if target f == v.me then end_needs v false f (part_of f) else false) (unneeded (target f) target_knows) in
      sym (ap (λ (t : Bool). if t then end_needs v false f (part_of f) else false) here) ∙
      sym (ap (λ (t : Bool). if t then end_needs v true f (part_of f) else if target f == v.me then end_needs v false f (part_of f) else false) away) ∙ no

-- What a node's view says was handed out was handed out.
handed_in : (net : Network) (w : World) (u : ℕ) (n : Name) (sae : ℕ) → was_handed (view_of net w u).handed n sae ≡ true → was_handed w.durable.handed n sae ≡ true
handed_in net w u n sae h = (handed_home net.site u w.durable.handed n sae (ap (λ (hs : List (Name × ℕ)). was_handed hs n sae) (sym (view_handed net w u)) ∙ h)).1

-- ---- a key or chunk that nobody needs

module _ (net : Network) (w : World) (c : Conserved net w) (behind : NothingBehind net w) (n : Name) (f : Fact) (at : fact_at w.durable.facts n ≡ Some f) (single : is_single f ≡ true)
    (nowhere : (u : ℕ) → u < net.site.nodes → IsUnneededAt net w (handed_name f) u) where
  -- The application at this end has got it.
  got : (v : View) (at_first : Bool) → end_needs v at_first f (part_of f) ≡ false → (sae : ℕ) × (sae_at v.facts at_first f ≡ Some sae) × (was_handed v.handed (name_of f) sae ≡ true)
  got v at_first h = from (sae_at v.facts at_first f) refl (not_true (has_it v (name_of f) (sae_at v.facts at_first f)) (sym (ap (end_needs v at_first f) (single_part f single)) ∙ h))
    where
      from : (o : Option ℕ) → sae_at v.facts at_first f ≡ o → has_it v (name_of f) o ≡ true → (sae : ℕ) × (sae_at v.facts at_first f ≡ Some sae) × (was_handed v.handed (name_of f) sae ≡ true)
      from None e k = cc
      from (Some sae) e k = (sae, e, k)

  view_all : (u : ℕ) → HasAll (view_of net w u).facts w.durable.facts
  view_all u k g h = let x = seen_as net w u k g h in record { fact = x.fact; there = x.there; alike = sym x.alike }

  handed_end : (u : ℕ) (at_first : Bool) → end_needs (view_of net w u) at_first f (part_of f) ≡ false → (sae : ℕ) → sae_at w.durable.facts at_first f ≡ Some sae → was_handed w.durable.handed n sae ≡ true
  handed_end u at_first h sae e =
      let r = got (view_of net w u) at_first h in
      let there = sae_moves (view_of net w u).facts w.durable.facts (view_all u) at_first f f r.0 refl r.1 in
      let same : Some r.0 ≡ Some sae = sym there ∙ e in
      let is : r.0 ≡ sae = cc in
      let named = found_name w.durable.facts n f at in
      handed_in net w u n sae ((λ i. was_handed (view_of net w u).handed (sym named i) (sym is i)) ∙ r.2)

  pub all_handed : IsAllHanded w.durable n
  all_handed true g sae h e =
      let same : Some g ≡ Some f = sym h ∙ at in
      let is : g ≡ f = cc in
      handed_end (origin f) true (first_end net w c behind n f at (single_secret f single) nowhere) sae (ap (sae_at w.durable.facts true) (sym is) ∙ e)
  all_handed false g sae h e =
      let same : Some g ≡ Some f = sym h ∙ at in
      let is : g ≡ f = cc in
      handed_end (target f) false (last_end net w c behind n f at (single_secret f single) nowhere) sae (ap (sae_at w.durable.facts false) (sym is) ∙ e)

-- ---- a group key that nobody needs

pub group_handed : (net : Network) (w : World) → Conserved net w → NothingBehind net w → (n : Name) → ((u : ℕ) → u < net.site.nodes → IsUnneededAt net w n u) → IsGroupHanded w.durable n
group_handed net w c behind n nowhere k f p at is key =
    let named : handed_name f ≡ n = part_key f p is ∙ key in
    let none : (u : ℕ) → u < net.site.nodes → IsUnneededAt net w (handed_name f) u = λ u less m g there knows secret name. nowhere u less m g there knows secret (name ∙ named) in
    let secret = part_secret f p is in
    let first : end_needs (view_of net w (origin f)) true f (Some p) ≡ false = ap (end_needs (view_of net w (origin f)) true f) (sym is) ∙ first_end net w c behind k f at secret none in
    let last : end_needs (view_of net w (target f)) false f (Some p) ≡ false = ap (end_needs (view_of net w (target f)) false f) (sym is) ∙ last_end net w c behind k f at secret none in
    let master : was_handed (view_of net w (origin f)).handed p.key p.master ≡ true = not_true (was_handed (view_of net w (origin f)).handed p.key p.master) (or_first (not (was_handed (view_of net w (origin f)).handed p.key p.master)) _ first) in
    let slave : was_handed (view_of net w (target f)).handed p.key p.slave ≡ true = not_true (was_handed (view_of net w (target f)).handed p.key p.slave) last in (
      handed_in net w (origin f) n p.master (ap (λ (m : Name). was_handed (view_of net w (origin f)).handed m p.master) (sym key) ∙ master),
      handed_in net w (target f) n p.slave (ap (λ (m : Name). was_handed (view_of net w (target f)).handed m p.slave) (sym key) ∙ slave),
    )
