-- What a manager is shown of a fact: all of it, or all but its bytes.
use Rattle.std.specs.Prelude.{◌≡◌, ℕ, true, List, Some, ◌⊎◌}
use Rattle.qkd_base.specs.Name.{Name, has}
use Rattle.qkd_base.specs.Route.{first_of, last_of}
use Rattle.net_model.specs.declared.fact.Fact.{Fact}
use Rattle.net_model.specs.Table.{fact_at, without_bytes}
use Rattle.net_model.specs.Ranges.{IsRoute}

-- A fact of the table that the node knows, unchanged or with zeros for its bytes.
pub record IsShown (facts : List Fact) (known : List Name) (n : Name) (g : Fact) : Type 0 where
  pub fact : Fact
  pub there : fact_at facts n ≡ Some fact
  pub knows : has known n ≡ true
  pub is : (g ≡ fact) ⊎ (g ≡ without_bytes fact)

-- A route from node a to node b.
pub record IsRouteBetween (a b : ℕ) (nodes : List ℕ) : Type 0 where
  pub starts : first_of nodes ≡ a
  pub ends : last_of nodes ≡ b
  pub route : IsRoute nodes
