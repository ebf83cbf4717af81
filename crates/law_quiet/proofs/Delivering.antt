-- A fact is delivered along its route exactly where nobody on the route owes it.
use Rattle.std.proofs.Common.{◌≡◌, ℕ, true, false, refl, sym, ◌∙◌, ap, subst, Some}
use Rattle.qkd_base.specs.Name.{Name, has}
use Rattle.qkd_base.specs.Route.{next_after}
use Rattle.net_model.specs.declared.fact.Fact.{Fact}
use Rattle.net_model.specs.Table.{route_of, fact_at}
use Rattle.net_model.specs.World.{Network, World}
use Rattle.net_model.specs.Knowledge.{IsOn}
use Rattle.net_model.specs.Needed.{view_of}
use Rattle.net_model.specs.Relay.{owed}
use Rattle.net_model.specs.Invariant.{Conserved}
use Rattle.law_base.proofs.Base.{not_false, not_both}
use Rattle.law_safety.proofs.Before.{route_differs}
use Rattle.law_quiet.specs.Delivered.{OwedByNobody, IsDelivered}
use Rattle.law_quiet.proofs.Routes.{reaches_all, has_next}
use Rattle.law_quiet.proofs.Owing.{knower_owes, owed_is_open}

module _ (net : Network) (w : World) (c : Conserved net w) (n : Name) (f : Fact) (there : fact_at w.durable.facts n ≡ Some f)
    (answered : (u v : ℕ) → next_after (route_of f) u ≡ Some v → has (w.durable.known u) n ≡ true → has (w.durable.acked u) n ≡ true) where
  next_knows : (u v : ℕ) → next_after (route_of f) u ≡ Some v → has (w.durable.known u) n ≡ true → has (w.durable.known v) n ≡ true
  next_knows u v next knows =
      let x = c.now.marked u n (answered u v next knows) in
      let same : x.1.fact ≡ f = let a = x.1.there in cc in
      let here : next_after (route_of f) u ≡ Some x.0 = ap (λ (g : Fact). next_after (route_of g) u) (sym same) ∙ x.1.next in
      let is : x.0 ≡ v = cc in
      subst (λ (z : ℕ). has (w.durable.known z) n ≡ true) is x.1.knows

  all_know : (v : ℕ) → IsOn (route_of f) v → has (w.durable.known v) n ≡ true
  all_know =
      let made = c.now.table n f there in
      reaches_all (λ (v : ℕ). has (w.durable.known v) n) (route_of f) (route_differs f made.ranged) next_knows
      (subst (λ (v : ℕ). has (w.durable.known v) n ≡ true) made.maker made.made)

  -- A fact is delivered if whoever knows it has the acknowledgement of the node after.
  pub arrived : IsDelivered w n f
  arrived = record { known = all_know; acked = λ u v next. answered u v next (all_know u (has_next (route_of f) u v next)) }

-- Who knows a fact and doesn't owe it has that acknowledgement.
pub has_answer : (net : Network) (w : World) (n : Name) (f : Fact) → fact_at w.durable.facts n ≡ Some f → (u v : ℕ) → next_after (route_of f) u ≡ Some v →
    has (owed (view_of net w u) v) n ≡ false → has (w.durable.known u) n ≡ true → has (w.durable.acked u) n ≡ true
has_answer net w n f there u v next paid knows = elim (has (w.durable.acked u) n) as (λ t. has (w.durable.acked u) n ≡ t → t ≡ true) [
  | true ↦ λ e. refl
  | false ↦ λ e. absurd (not_both (has (owed (view_of net w u) v) n) (knower_owes net w u v n f there knows next e) paid)
] refl

pub delivered : (net : Network) (w : World) → Conserved net w → (n : Name) (f : Fact) → fact_at w.durable.facts n ≡ Some f → OwedByNobody net w n f → IsDelivered w n f
delivered net w c n f there paid = arrived net w c n f there (λ u v next. has_answer net w n f there u v next (paid u v next))

pub paid_for : (net : Network) (w : World) (n : Name) (f : Fact) → IsDelivered w n f → OwedByNobody net w n f
paid_for net w n f d u v next =
    not_false (has (owed (view_of net w u) v) n) (λ owes. not_both (has (w.durable.acked u) n) (d.acked u v next) (owed_is_open net w u v n owes))
