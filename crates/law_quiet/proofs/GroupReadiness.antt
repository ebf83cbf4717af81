-- A group key whose parts are all confirmed, and that its master hasn't got, is in its pool.
use Rattle.std.proofs.Common.{◌≡◌, ℕ, zero, suc, ◌+◌, Bool, true, false, ◌&&◌, List, [], ◌∷◌, refl, sym, ◌∙◌, ap, subst, length, Option, Some, None, inl, inr}
use Rattle.std.specs.Prelude.{slice_get}
use Rattle.std.specs.List.{list_all}
use Rattle.std.proofs.lemmas.List.Sums.{length-filter}
use Rattle.qkd_base.specs.Name.{Name, name_eq, has}
use Rattle.qkd_base.specs.declared.key_name.NameKind.{NameKind}
use Rattle.qkd_base.specs.declared.key_name.NameKind.TheVariants.{Key as KeyKind}
use Rattle.net_model.specs.declared.fact.Fact.{Fact}
use Rattle.net_model.specs.declared.fact.Fact.TheVariants.{Part}
use Rattle.net_model.specs.Table.{PartOf, is_secret, part_of, is_named, is_part_of, parts_of, name_of, origin, fact_at, facts_of}
use Rattle.net_model.specs.World.{Network, World}
use Rattle.net_model.specs.View.{View}
use Rattle.net_model.specs.Needed.{masked_fact, masked, view_of}
use Rattle.net_model.specs.Decision.{last_count, is_confirmed}
use Rattle.net_model.specs.Pools.{names_up_to, own_names}
use Rattle.net_model.specs.Groups.{is_unhanded_group, unhanded_group, is_group_ready, group}
use Rattle.net_model.specs.Invariant.{Conserved}
use Rattle.law_base.proofs.Base.{name_eq_from, and_both}
use Rattle.law_base.proofs.Lists.{last_cases, kept_at, mapped_at}
use Rattle.law_base.proofs.Masked.{masked_same, name_blind, part_blind}
use Rattle.law_base.proofs.Seen.{bare_view, view_me}
use Rattle.law_invariant.proofs.Seen.{known_at}
use Rattle.law_quiet.specs.Delivered.{IsBack}
use Rattle.law_quiet.proofs.Counts.{count_agree}
use Rattle.law_quiet.proofs.LeavingLanes.{any_kept}

all_true : {A : Type 0} (p : A → Bool) (xs : List A) → ((i : ℕ) (x : A) → slice_get xs i ≡ Some x → p x ≡ true) → list_all p xs ≡ true
all_true p [] h = refl
all_true p (x ∷ xs) h = and_both (p x) _ (h zero x refl) (all_true p xs (λ i y e. h (suc i) y e))

module _ (net : Network) (w : World) (c : Conserved net w) (n : Name) where
  abbrev see : View
  see = view_of net w n.node

  -- The parts of a group key have the node that named it as their origin.

  part_named : (f : Fact) (o : Option PartOf) → fact_at w.durable.facts (name_of f) ≡ Some f → part_of f ≡ o → is_named o n ≡ true → origin f ≡ n.node
  part_named f None there e h = cc
  part_named f (Some p) there e h = sym (c.now.groups.own (name_of f) f p there e).0 ∙ ap (λ (x : Name). x.node) (name_eq_from p.key n h)

  module _ (backs : (k : Name) (f : Fact) → fact_at w.durable.facts k ≡ Some f → is_part_of n f ≡ true → IsBack net w k f) where
    confirmed : (i : ℕ) (g : Fact) → slice_get (parts_of see.facts n) i ≡ Some g → is_confirmed see (name_of g) ≡ true
    unfolding view_of masked
    confirmed i g at =
        let kept = kept_at (is_part_of n) see.facts g i at in
        let shown = mapped_at (masked_fact (bare_view net w n.node)) (facts_of w.durable.facts (w.durable.known n.node)) g kept.0 kept.1 in
        let f : Fact = shown.0 in
        let there = known_at w.durable.facts (w.durable.known n.node) f kept.0 shown.1 in
        let part : is_part_of n f ≡ true = sym (masked_same (is_part_of n) (part_blind n) (bare_view net w n.node) f) ∙ ap (is_part_of n) shown.2 ∙ kept.2 in
        let name : name_of f ≡ name_of g = sym (masked_same name_of name_blind (bare_view net w n.node) f) ∙ ap name_of shown.2 in
        let home : origin f ≡ n.node = part_named f (part_of f) there.0 refl part in
        ap (is_confirmed see) (sym name) ∙ subst (λ (u : ℕ). is_confirmed (view_of net w u) (name_of f) ≡ true) home (backs (name_of f) f there.0 part).seen

    pub ready : is_group_ready see n ≡ true
    ready = all_true (λ f. is_confirmed see (name_of f)) (parts_of see.facts n) confirmed

    pub group_is_ready : (m : ℕ) (slaves : List ℕ) (bits : ℕ) → has (own_names see) n ≡ true → is_unhanded_group see m slaves bits n ≡ true → has (group see m slaves bits) n ≡ true
    unfolding group
    group_is_ready m slaves bits own kept =
        any_kept (λ x. is_unhanded_group see m slaves bits x && is_group_ready see x) (λ x. name_eq x n) (own_names see)
        (λ x e. ap (λ (y : Name). is_unhanded_group see m slaves bits y && is_group_ready see y) (name_eq_from x n e) ∙
        and_both (is_unhanded_group see m slaves bits n) (is_group_ready see n) kept ready) own

-- Where all parts are confirmed, the pool has just as many group keys as the master hasn't got.

part_secret : (n : Name) (f : Fact) → is_part_of n f ≡ true → is_secret f ≡ true
part_secret n (Part name key master slave route bytes) h = refl
part_secret n _ h = cc

named_here : (me : ℕ) (kind : NameKind) (c i : ℕ) (n : Name) → slice_get (names_up_to me kind c) i ≡ Some n → n.node ≡ me
named_here me kind zero i n at = cc
named_here me kind (suc c) i n at = elim (last_cases (names_up_to me kind c) (record { node = me; kind = kind; count = c + 1 }) i n at) [
  | inl early ↦ named_here me kind c i n early
  | inr (place, is) ↦ ap (λ (x : Name). x.node) (sym is)
]

module _ (net : Network) (w : World) (c : Conserved net w) (v : ℕ) (m : ℕ) (slaves : List ℕ) (bits : ℕ)
    (backs : (k : Name) (f : Fact) → fact_at w.durable.facts k ≡ Some f → is_secret f ≡ true → IsBack net w k f) where
  abbrev seen : View
  seen = view_of net w v

  same_test : (i : ℕ) (n : Name) → slice_get (own_names seen) i ≡ Some n → (is_unhanded_group seen m slaves bits n && is_group_ready seen n) ≡ is_unhanded_group seen m slaves bits n
  same_test i n at =
      let here : n.node ≡ v = named_here seen.me KeyKind (last_count seen.me seen.facts) i n at ∙ view_me net w v in
      let all = subst (λ (u : ℕ). is_group_ready (view_of net w u) n ≡ true) here (ready net w c n (λ k f there part. backs k f there (part_secret n f part))) in
      ap (λ (b : Bool). is_unhanded_group seen m slaves bits n && b) all ∙ plain (is_unhanded_group seen m slaves bits n)
    where
      plain : (b : Bool) → (b && true) ≡ b
      plain true = refl
      plain false = refl

  pub groups_full : length (group seen m slaves bits) ≡ unhanded_group seen m slaves bits
  unfolding group unhanded_group
  groups_full =
      length-filter (λ n. is_unhanded_group seen m slaves bits n && is_group_ready seen n) (own_names seen) ∙
      count_agree (λ n. is_unhanded_group seen m slaves bits n && is_group_ready seen n) (is_unhanded_group seen m slaves bits) (own_names seen) same_test
