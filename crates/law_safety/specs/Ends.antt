-- The order of nodes on a route.
use Rattle.std.specs.Prelude.{ℕ, ◌==◌, Bool, false, List, [], ◌∷◌, if◌then◌else◌}
use Rattle.std.specs.List.{list_any}

-- Node u stands before node v on the route.
abbrev pub stands_before : List ℕ → ℕ → ℕ → Bool
stands_before [] u v = false
stands_before (a ∷ rest) u v = if a == u then list_any (λ x. x == v) rest else stands_before rest u v
