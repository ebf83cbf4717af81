-- Which nodes have a walk of a given number of links to a node.
use Rattle.std.specs.Prelude.{◌≡◌, ℕ, ◌≤◌, ◌==◌, ◌&&◌, ◌||◌, not, Bool, true, false, List, [], slice_index_or, bit_and, ◌^◌, Option, Some, None}
use Rattle.route_table.specs.Table.{Table}
use Rattle.route_table.specs.Walk.{AreJoined, IsWalk, IsNotAfter, links_of}

-- whether the node is one of these
abbrev pub has_node : List Bool → ℕ → Bool
has_node nodes v = slice_index_or nodes v false

-- the link leads from one of these nodes to node v
abbrev pub leads : Option (ℕ × ℕ) → List Bool → ℕ → Bool
leads None near v = false
leads (Some ends) near v = ((v == ends.1) && has_node near ends.0) || ((v == ends.0) && has_node near ends.1)

abbrev pub bit_is_set : ℕ → ℕ → Bool
bit_is_set up link = not (bit_and up (2 ^ link) == 0)

-- node v is next to one of these nodes: a link that is up joins the two
pub record IsNextTo (t : Table) (up : ℕ) (near : List Bool) (v : ℕ) : Type 0 where
  pub node : ℕ
  pub joined : AreJoined t up v node
  pub is_near : has_node near node ≡ true

-- `far` are exactly the nodes that are next to one of the nodes `near`
pub record AreNextTo (t : Table) (up : ℕ) (near far : List Bool) : Type 0 where
  pub next : (v : ℕ) → has_node far v ≡ true → IsNextTo t up near v
  pub all : (v : ℕ) → IsNextTo t up near v → has_node far v ≡ true

-- there is a walk of this many links from a to b
pub record HasWalk (t : Table) (up a b links : ℕ) : Type 0 where
  pub walk : List ℕ
  pub walks : IsWalk t up a b walk
  pub long : links_of walk ≡ links

-- the nodes from which a walk of this many links leads to b
pub record IsLayer (t : Table) (up b links : ℕ) (nodes : List Bool) : Type 0 where
  pub reached : (v : ℕ) → has_node nodes v ≡ true → HasWalk t up v b links
  pub all : (v : ℕ) → HasWalk t up v b links → has_node nodes v ≡ true

abbrev pub AreLayers : Table → ℕ → ℕ → List (List Bool) → Type 0
AreLayers t up b layers = (links : ℕ) → links ≤ 8 → IsLayer t up b links (slice_index_or layers links [])

abbrev pub is_reached : List (List Bool) → ℕ → ℕ → Bool
is_reached layers links v = has_node (slice_index_or layers links []) v

-- w is the first of these nodes that is next to node v: a link that is up joins the two
pub record IsFirstStep (t : Table) (up : ℕ) (near : List Bool) (v w : ℕ) : Type 0 where
  pub joined : AreJoined t up v w
  pub is_near : has_node near w ≡ true
  pub first : (x : ℕ) → AreJoined t up v x → has_node near x ≡ true → w ≤ x

-- the first, in order, of the walks of this many links
pub record IsFirstWalk (t : Table) (up a b links : ℕ) (walk : List ℕ) : Type 0 where
  pub walks : IsWalk t up a b walk
  pub long : links_of walk ≡ links
  pub first : (other : List ℕ) → IsWalk t up a b other → links_of other ≡ links → IsNotAfter walk other
