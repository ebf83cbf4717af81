-- Routes: of the walks over links that are up, one with the fewest links, and of these the first in order.
use Rattle.std.specs.Prelude.{ℕ, zero, suc, ◌+◌, ◌==◌, ◌&&◌, ◌||◌, Bool, List, [], ◌∷◌, find, map, Option, Some, None, if◌then◌else◌}
use Rattle.std.specs.List.{flat_map, list_any}
use Rattle.qkd_base.specs.Route.{last_of}
use Rattle.net_model.specs.Site.{Site, count_up}

-- the link is up and joins the two nodes
abbrev pub joins : Site → (ℕ → Bool) → ℕ → ℕ → ℕ → Bool
joins s up a b link = up link && (((s.low link == a) && (s.high link == b)) || ((s.low link == b) && (s.high link == a)))

abbrev pub are_joined : Site → (ℕ → Bool) → ℕ → ℕ → Bool
are_joined s up a b = list_any (joins s up a b) (count_up s.links)

-- the walks from a node over this many links, all of them up, in order
unfoldable pub walks : Site → (ℕ → Bool) → ℕ → ℕ → List (List ℕ)
walks s up zero a = (a ∷ []) ∷ []
walks s up (suc k) a = flat_map (λ b. if are_joined s up a b then map (λ w. a ∷ w) (walks s up k b) else []) (count_up s.nodes)

abbrev pub or_else : {A : Type 0} → Option A → Option A → Option A
or_else None o = o
or_else (Some w) o = Some w

-- the first walk to b that has k links, or else k + 1 links, and so on
unfoldable pub route_from : Site → (ℕ → Bool) → ℕ → ℕ → ℕ → ℕ → Option (List ℕ)
route_from s up a b k zero = None
route_from s up a b k (suc more) = or_else (find (λ w. last_of w == b) (walks s up k a)) (route_from s up a b (k + 1) more)

-- there is no route from a node to itself, and none of more than 8 links
unfoldable pub route : Site → (ℕ → Bool) → ℕ → ℕ → Option (List ℕ)
route s up a b = if a == b then None else route_from s up a b 1 8
