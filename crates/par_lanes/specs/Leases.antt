-- The leases of a plan.
use Rattle.std.specs.Prelude.{◌≡◌, ℕ, ◌+◌, ◌≤◌, nat_lt, List, ◌∷◌, ◌++◌, if◌then◌else◌}
use Rattle.std.specs.List.{AllByRecursion, flat_map}
use Rattle.qkd_base.specs.Lane.{lane_place}
use Rattle.net_model.specs.declared.order.Order.{Order}
use Rattle.net_model.specs.Site.{Site}
use Rattle.net_model.specs.View.{View, Port, received_of}
use Rattle.net_model.specs.Plan.{orders_on, spelled_orders, end_on, raise}
use Rattle.par_lanes.specs.Granting.{need_at}

-- the orders that a plan replies for these ports, whose links are up
abbrev pub replied_orders : Site → View → List Port → List Order
replied_orders s v ports = flat_map (λ (p : Port). spelled_orders v.facts p.planned (orders_on s v p)) ports

-- the lease of a port's lane after the plan
abbrev pub lease_behind : Site → View → Port → ℕ
lease_behind s v p = if nat_lt p.lease (end_on s v p) then raise (end_on s v p) (received_of p) else p.lease

-- On each lane, the bytes that a plan's orders take lie after the planned end and below the lease after the plan. This lease is at most the number of
-- received bytes.
abbrev pub ArePlansLeased : Type 0
ArePlansLeased = (s : Site) (v : View) (before after : List Port) (p : Port) → p.planned ≤ p.lease → p.lease ≤ received_of p →
    AllByRecursion (λ (q : Port). lane_place q.lane ≡ lane_place p.lane → ⊥) before → AllByRecursion (λ (q : Port). lane_place q.lane ≡ lane_place p.lane → ⊥) after →
    (p.planned + need_at (lane_place p.lane) (replied_orders s v (before ++ p ∷ after)) ≤ lease_behind s v p) × (lease_behind s v p ≤ received_of p)
