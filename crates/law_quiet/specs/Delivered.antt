-- When a fact is delivered along its route, when nobody owes it there, and when its origin has the target's word of it.
use Rattle.std.specs.Prelude.{◌≡◌, ℕ, true, false, reverse, Some}
use Rattle.qkd_base.specs.Name.{Name, has}
use Rattle.qkd_base.specs.Route.{next_after}
use Rattle.net_model.specs.declared.fact.Fact.{Fact}
use Rattle.net_model.specs.declared.fact.Fact.TheVariants.{Stored}
use Rattle.net_model.specs.Table.{route_of, origin, fact_at}
use Rattle.net_model.specs.World.{Network, World}
use Rattle.net_model.specs.Knowledge.{IsOn}
use Rattle.net_model.specs.Needed.{view_of}
use Rattle.net_model.specs.Relay.{owed}
use Rattle.net_model.specs.Decision.{is_confirmed}

-- Nobody on the fact's route owes it to the node after.
abbrev pub OwedByNobody : Network → World → Name → Fact → Type 0
OwedByNobody net w n f = (u v : ℕ) → next_after (route_of f) u ≡ Some v → has (owed (view_of net w u) v) n ≡ false

-- Every node of the route knows the fact, and every node but the last has the acknowledgement of the node after.
pub record IsDelivered (w : World) (n : Name) (f : Fact) : Type 0 where
  pub known : (v : ℕ) → IsOn (route_of f) v → has (w.durable.known v) n ≡ true
  pub acked : (u v : ℕ) → next_after (route_of f) u ≡ Some v → has (w.durable.acked u) n ≡ true

-- The table has the target's Stored note about the fact. It came back along the whole route, and the origin sees it.
pub record IsBack (net : Network) (w : World) (n : Name) (f : Fact) : Type 0 where
  pub note : Name
  pub there : fact_at w.durable.facts note ≡ Some (Stored note n (reverse (route_of f)))
  pub delivered : IsDelivered w note (Stored note n (reverse (route_of f)))
  pub seen : is_confirmed (view_of net w (origin f)) n ≡ true
