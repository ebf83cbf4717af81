-- Walks over links that are up, and the least of them.
use Rattle.std.specs.Prelude.{◌≡◌, ◌⊎◌, ℕ, ◌-◌, ◌<◌, ◌≤◌, List, [], ◌∷◌, length, Some, IsBitSet}
use Rattle.route_table.specs.Table.{Table, ends_of}

-- a link joins two nodes, in either order
abbrev pub Joins : Table → ℕ → ℕ → ℕ → Type 0
Joins t link v w = (ends_of t link ≡ Some (v, w)) ⊎ (ends_of t link ≡ Some (w, v))

-- a link that is up joins two nodes
pub record AreJoined (t : Table) (up v w : ℕ) : Type 0 where
  pub link : ℕ
  pub is_up : IsBitSet up link
  pub joins : Joins t link v w

-- a walk from a to b: a list of nodes, each joined to the next by a link that is up
abbrev pub IsWalk : Table → ℕ → ℕ → ℕ → List ℕ → Type 0
IsWalk t up a b [] = ⊥
IsWalk t up a b (v ∷ []) = (v ≡ a) × (v ≡ b)
IsWalk t up a b (v ∷ w ∷ rest) = (v ≡ a) × AreJoined t up v w × IsWalk t up w b (w ∷ rest)

-- how many links a walk has
abbrev pub links_of : List ℕ → ℕ
links_of walk = length walk - 1

-- the first list isn't after the second: lists of nodes are ordered by the first place where they differ
abbrev pub IsNotAfter : List ℕ → List ℕ → Type 0
IsNotAfter [] ys = Unit {0}
IsNotAfter (x ∷ xs) [] = ⊥
IsNotAfter (x ∷ xs) (y ∷ ys) = (x < y) ⊎ ((x ≡ y) × IsNotAfter xs ys)

-- no walk has fewer links, and none with as many links comes before this one
pub record IsLeastWalk (t : Table) (up a b : ℕ) (walk : List ℕ) : Type 0 where
  pub walks : IsWalk t up a b walk
  pub fewest : (other : List ℕ) → IsWalk t up a b other → links_of walk ≤ links_of other
  pub first : (other : List ℕ) → IsWalk t up a b other → links_of other ≡ links_of walk → IsNotAfter walk other

-- some walk has at most 8 links
pub record HasRoute (t : Table) (up a b : ℕ) : Type 0 where
  pub walk : List ℕ
  pub walks : IsWalk t up a b walk
  pub short : links_of walk ≤ 8
