-- A node owes a fact of the table to the next node exactly while it knows the fact and has no acknowledgement of it.
use Rattle.std.proofs.Common.{◌≡◌, ℕ, Bool, true, false, not, ◌&&◌, List, [], ◌∷◌, refl, sym, ◌∙◌, ap, Some}
use Rattle.std.specs.Prelude.{map, filter, if◌then◌else◌}
use Rattle.qkd_base.specs.Name.{Name, name_eq, has}
use Rattle.qkd_base.specs.Route.{next_after}
use Rattle.net_model.specs.declared.fact.Fact.{Fact}
use Rattle.net_model.specs.Table.{name_of, route_of, fact_at}
use Rattle.net_model.specs.World.{Network, World}
use Rattle.net_model.specs.Needed.{masked_fact, masked, view_of}
use Rattle.net_model.specs.Relay.{is_some_of, owed}
use Rattle.law_base.proofs.Base.{eq_same, name_eq_from, and_right, and_both, or_left, or_right, was_not}
use Rattle.law_base.proofs.Lists.{any_at, kept_at, mapped_at}
use Rattle.law_base.proofs.Tables.{found_name}
use Rattle.law_base.proofs.Masked.{masked_same, name_blind, route_blind}
use Rattle.law_base.proofs.Seen.{bare_view, view_sees, seen_there}

-- Lemmas on the names of the facts that pass a test.

found_kept : (p : Fact → Bool) (xs : List Fact) (n : Name) (g : Fact) → fact_at xs n ≡ Some g → p g ≡ true → has (map name_of (filter p xs)) n ≡ true
found_kept p [] n g at passes = cc
found_kept p (x ∷ xs) n g at passes =
    elim (name_eq (name_of x) n) as (λ t. name_eq (name_of x) n ≡ t → (if t then Some x else fact_at xs n) ≡ Some g → has (map name_of (filter p (x ∷ xs))) n ≡ true) [
      | true ↦ λ e is.
          let same : x ≡ g = cc in
          ap (λ (t : Bool). has (map name_of (if t then x ∷ filter p xs else filter p xs)) n) (ap p same ∙ passes) ∙ or_left (name_eq (name_of x) n) _ e
      | false ↦ λ e later.
          let rest = found_kept p xs n g later passes in
          elim (p x) as (λ t. has (map name_of (if t then x ∷ filter p xs else filter p xs)) n ≡ true) [ true ↦ or_right (name_eq (name_of x) n) _ rest | false ↦ rest ]
    ] refl at

kept_passes : (p : Fact → Bool) (xs : List Fact) (n : Name) → has (map name_of (filter p xs)) n ≡ true → (g : Fact) × (p g ≡ true) × (name_of g ≡ n)
kept_passes p xs n h =
    let at = any_at (λ m. name_eq m n) (map name_of (filter p xs)) h in
    let named = mapped_at name_of (filter p xs) at.1 at.0 at.2 in
    (named.0, (kept_at p xs named.0 at.0 named.1).2, named.2 ∙ name_eq_from at.1 n at.3)

module _ (net : Network) (w : World) (u v : ℕ) (n : Name) where
  -- Whether a fact that the node sees is owed to node v.
  abbrev is_owed_to : Fact → Bool
  is_owed_to f = is_some_of (next_after (route_of f) u) v && not (has (w.durable.acked u) (name_of f))

  -- Who knows a fact, and has no acknowledgement of it, owes it to the next node.
  pub knower_owes : (f : Fact) → fact_at w.durable.facts n ≡ Some f → has (w.durable.known u) n ≡ true → next_after (route_of f) u ≡ Some v →
      has (w.durable.acked u) n ≡ false → has (owed (view_of net w u) v) n ≡ true
  unfolding owed view_of masked
  knower_owes f there knows next unanswered =
      let shown : Fact = masked_fact (bare_view net w u) f in
      let at = seen_there net.site w.durable (view_of net w u) (bare_view net w u) (view_sees net w u) n f there knows in
      let name : name_of shown ≡ n = masked_same name_of name_blind (bare_view net w u) f ∙ found_name w.durable.facts n f there in
      let to : is_some_of (next_after (route_of shown) u) v ≡ true =
      ap (λ (r : List ℕ). is_some_of (next_after r u) v) (masked_same route_of route_blind (bare_view net w u) f) ∙ ap (λ (o : _). is_some_of o v) next ∙ eq_same v in
      let not_yet : not (has (w.durable.acked u) (name_of shown)) ≡ true = ap (λ (m : Name). not (has (w.durable.acked u) m)) name ∙ ap not unanswered in
      found_kept is_owed_to (view_of net w u).facts n shown at (and_both (is_some_of (next_after (route_of shown) u) v) _ to not_yet)

  -- What is owed has no acknowledgement.
  pub owed_is_open : has (owed (view_of net w u) v) n ≡ true → has (w.durable.acked u) n ≡ false
  unfolding owed view_of masked
  owed_is_open h =
      let x = kept_passes is_owed_to (view_of net w u).facts n h in
      ap (has (w.durable.acked u)) (sym x.2) ∙ was_not _ (and_right (is_some_of (next_after (route_of x.0) u) v) _ x.1)
