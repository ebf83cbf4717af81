-- A key that is confirmed at its origin, and that its master hasn't got, is in its pool; its target knows it for its slave.
use Rattle.std.proofs.Common.{◌≡◌, ℕ, zero, suc, ◌+◌, ◌*◌, ◌≤◌, true, false, not, ◌&&◌, ◌||◌, List, length, refl, sym, ◌∙◌, ap, subst, arith, Some, ◌⊎◌, inl, inr}
use Rattle.std.specs.Prelude.{◌==◌}
use Rattle.std.proofs.lemmas.List.{length-replicate}
use Rattle.qkd_base.specs.Name.{Name, IsName, name_eq, has}
use Rattle.qkd_base.specs.declared.key_name.NameKind.{NameKind}
use Rattle.qkd_base.specs.declared.key_name.NameKind.TheVariants.{Key as KeyKind}
use Rattle.net_model.specs.declared.fact.Fact.{Fact}
use Rattle.net_model.specs.declared.fact.Fact.TheVariants.{Key, Chunk, Stored, Open, Joined, Part}
use Rattle.net_model.specs.Facts.{IsWellFormedFact}
use Rattle.net_model.specs.Table.{name_of, route_of, origin, target, fact_at, was_handed}
use Rattle.net_model.specs.World.{Network, World}
use Rattle.net_model.specs.View.{View}
use Rattle.net_model.specs.Needed.{view_of}
use Rattle.net_model.specs.Decision.{last_count, is_confirmed}
use Rattle.net_model.specs.Pools.{names_up_to, own_names, is_key_of, is_in_pool, pool, is_for}
use Rattle.net_model.specs.Knowledge.{IsEntitled}
use Rattle.net_model.specs.Invariant.{Conserved}
use Rattle.law_base.proofs.Base.{eq_from, name_eq_from, name_eq_same, and_left, and_right, and_both, or_left, or_right}
use Rattle.law_base.proofs.Tables.{found_name, has-push, ranged_name}
use Rattle.law_base.proofs.Masked.{IsBlind, masked_same}
use Rattle.law_base.proofs.Seen.{bare_view, view_sees, view_me, seen_there, count_seen, handed_seen}
use Rattle.law_invariant.proofs.Effects.{apart_cases}
use Rattle.law_invariant.proofs.Made.{ranged_route}
use Rattle.law_safety.specs.Known.{KnowsFor}
use Rattle.law_quiet.specs.Delivered.{IsDelivered, IsBack}
use Rattle.law_quiet.proofs.LeavingLanes.{any_kept}
use Rattle.law_quiet.proofs.Routes.{last_on}

-- Each of a node's names up to the greatest count is listed.
listed : (me : ℕ) (kind : NameKind) (c : ℕ) (n : Name) → n.node ≡ me → n.kind ≡ kind → 1 ≤ n.count → n.count ≤ c → has (names_up_to me kind c) n ≡ true
listed me kind zero n node is low high = absurd (omega (arith, low, high))
listed me kind (suc c) n node is low high =
    let last : Name = record { node = me; kind = kind; count = c + 1 } in
    has-push (names_up_to me kind c) last n ∙
    (elim (below n.count c high) as (λ x. (has (names_up_to me kind c) n || name_eq last n) ≡ true) [
      | inl less ↦ or_left (has (names_up_to me kind c) n) _ (listed me kind c n node is low less)
      | inr same ↦
          let here : n ≡ last = λ i. record { node = node i; kind = is i; count = same i } in
          or_right (has (names_up_to me kind c) n) _ (ap (name_eq last) here ∙ name_eq_same last)
    ])
  where
    below : (k c : ℕ) → k ≤ suc c → (k ≤ c) ⊎ (k ≡ c + 1)
    below k c h = elim (apart_cases k (c + 1)) [ inl same ↦ inr same | inr apart ↦ inl (omega (arith, h, apart)) ]

-- A key has the parts that its pool asks for.

pub key_blind : (m t bits : ℕ) → IsBlind (λ (f : Fact). is_key_of m t bits (Some f))
key_blind m t bits (Key name master slave route bytes) = ap (λ (k : ℕ). (master == m) && (slave == t) && (8 * k == bits)) (length-replicate (length bytes) 0)
key_blind m t bits (Chunk name stream index route bytes) = refl
key_blind m t bits (Stored note about route) = refl
key_blind m t bits (Open stream source peer size route) = refl
key_blind m t bits (Joined note about route) = refl
key_blind m t bits (Part name key master slave route bytes) = refl

key_kind : (m t bits : ℕ) (f : Fact) → is_key_of m t bits (Some f) ≡ true → IsWellFormedFact f → (name_of f).kind ≡ KeyKind
key_kind m t bits (Key name master slave route bytes) h formed = formed.0
key_kind m t bits _ h formed = cc

pub key_home : (net : Network) (facts : List Fact) (m t bits : ℕ) (f : Fact) → is_key_of m t bits (Some f) ≡ true → IsEntitled net.site facts f → net.site.home m ≡ origin f
key_home net facts m t bits (Key name master slave route bytes) h pair =
    let is : master ≡ m = eq_from master m (and_left (master == m) (slave == t) (and_left ((master == m) && (slave == t)) (8 * length bytes == bits) h)) in
    ap net.site.home (sym is) ∙ sym pair.from
key_home net facts m t bits _ h pair = cc

key_for : (m t bits : ℕ) (n : Name) (f : Fact) → is_key_of m t bits (Some f) ≡ true → name_of f ≡ n → is_for m t n f ≡ true
key_for m t bits n (Key name master slave route bytes) h is =
    let both = and_left ((master == m) && (slave == t)) (8 * length bytes == bits) h in
    and_both (name_eq name n && (master == m)) (slave == t)
    (and_both (name_eq name n) (master == m) (ap (λ (x : Name). name_eq x n) is ∙ name_eq_same n) (and_left (master == m) (slave == t) both)) (and_right (master == m) (slave == t) both)
key_for m t bits n _ h is = cc

module _ (net : Network) (w : World) (c : Conserved net w) (n : Name) (f : Fact) (m t bits : ℕ) (there : fact_at w.durable.facts n ≡ Some f)
    (key : is_key_of m t bits (Some f) ≡ true) where
  abbrev see : View
  see = view_of net w (origin f)

  mine : n.node ≡ see.me
  mine = (c.now.table n f there).maker ∙ sym (view_me net w (origin f))

  knows : has (w.durable.known see.me) n ≡ true
  knows = subst (λ (u : ℕ). has (w.durable.known u) n ≡ true) mine (c.now.table n f there).made

  pub is_own : has (own_names see) n ≡ true
  is_own =
      let made = c.now.table n f there in
      let name = found_name w.durable.facts n f there in
      listed see.me KeyKind (last_count see.me see.facts) n mine (ap (λ (x : Name). x.kind) (sym name) ∙ key_kind m t bits f key made.formed)
      (subst IsName name (ranged_name f made.ranged)).positive
      (count_seen net.site w.durable see (bare_view net w (origin f)) (view_sees net w (origin f)) n f there knows mine)

  passes : IsBack net w n f → was_handed w.durable.handed n m ≡ false → is_in_pool see m t bits n ≡ true
  passes back kept =
      let at = seen_there net.site w.durable see (bare_view net w (origin f)) (view_sees net w (origin f)) n f there knows in
      let is_key : is_key_of m t bits (fact_at see.facts n) ≡ true =
      ap (is_key_of m t bits) at ∙ masked_same (λ (g : Fact). is_key_of m t bits (Some g)) (key_blind m t bits) (bare_view net w (origin f)) f ∙ key in
      let home : net.site.home m ≡ see.me = key_home net w.durable.facts m t bits f key (c.now.table n f there).entitled ∙ sym (view_me net w (origin f)) in
      let free : not (was_handed see.handed n m) ≡ true = ap not (handed_seen net.site w.durable see (bare_view net w (origin f)) (view_sees net w (origin f)) n m home ∙ kept) in
      and_both (is_key_of m t bits (fact_at see.facts n) && is_confirmed see n) (not (was_handed see.handed n m))
      (and_both (is_key_of m t bits (fact_at see.facts n)) (is_confirmed see n) is_key back.seen) free

  pub is_ready : IsBack net w n f → was_handed w.durable.handed n m ≡ false → has (pool see m t bits) n ≡ true
  unfolding pool
  is_ready back kept =
      any_kept (is_in_pool see m t bits) (λ x. name_eq x n) (own_names see) (λ x e. ap (is_in_pool see m t bits) (name_eq_from x n e) ∙ passes back kept) is_own

  pub is_known : IsDelivered w n f → KnowsFor w.durable.facts (w.durable.known (target f)) m t n
  is_known came =
      let name = found_name w.durable.facts n f there in
      record {
        fact = f;
        there = ap (fact_at w.durable.facts) name ∙ there;
        knows = ap (has (w.durable.known (target f))) name ∙ came.known (target f) (last_on (route_of f) (ranged_route f (c.now.table n f there).ranged).0);
        is = key_for m t bits n f key name;
      }
