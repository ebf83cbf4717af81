-- Routes: lists of 2 to 9 different nodes.
use Rattle.std.specs.Prelude.{◌≡◌, ℕ, ◌-◌, ◌≤◌, ◌==◌, ◌&&◌, not, nat_lt, nat_le, Bool, true, List, [], ◌∷◌, ◌++◌, length, take, drop, replicate, Option, Some, None, if◌then◌else◌}
use Rattle.std.specs.List.{list_any, list_all}

-- no number occurs twice
abbrev pub is_distinct : List ℕ → Bool
is_distinct [] = true
is_distinct (n ∷ ns) = not (list_any (λ m. m == n) ns) && is_distinct ns

abbrev pub is_route : List ℕ → Bool
is_route ns = nat_le 2 (length ns) && nat_le (length ns) 9 && is_distinct ns

-- each number is that of a node, so below 16
abbrev pub are_nodes : List ℕ → Bool
are_nodes ns = list_all (λ n. nat_lt n 16) ns

abbrev pub first_of : List ℕ → ℕ
first_of [] = 0
first_of (v ∷ vs) = v

abbrev pub last_of : List ℕ → ℕ
last_of [] = 0
last_of (v ∷ []) = v
last_of (v ∷ w ∷ vs) = last_of (w ∷ vs)

-- the node that comes directly after node v
abbrev pub next_after : List ℕ → ℕ → Option ℕ
next_after [] v = None
next_after (a ∷ []) v = None
next_after (a ∷ b ∷ rest) v = if a == v then Some b else next_after (b ∷ rest) v

-- an array of nine that holds a route of `size` nodes: the places after the route repeat its first node
pub record IsRoom (room : List ℕ) (size : ℕ) : Type 0 where
  pub whole : length room ≡ 9
  pub within : size ≤ 9
  pub route : is_route (take size room) ≡ true
  pub nodes : are_nodes (take size room) ≡ true
  pub rest : drop size room ≡ replicate (9 - size) (first_of room)

abbrev pub room_of : List ℕ → List ℕ
room_of ns = ns ++ replicate (9 - length ns) (first_of ns)
