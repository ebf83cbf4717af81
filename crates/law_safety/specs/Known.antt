-- A slave's key is known at its home.
use Rattle.std.specs.Prelude.{◌≡◌, ℕ, true, List, Some}
use Rattle.qkd_base.specs.Name.{Name, has}
use Rattle.net_model.specs.declared.fact.Fact.{Fact}
use Rattle.net_model.specs.Table.{name_of, fact_at}
use Rattle.net_model.specs.Pools.{is_for}

-- The node knows the key of this name and pair, or the slave's part of the group key of this name.
pub record KnowsFor (facts : List Fact) (known : List Name) (m t : ℕ) (n : Name) : Type 0 where
  pub fact : Fact
  pub there : fact_at facts (name_of fact) ≡ Some fact
  pub knows : has known (name_of fact) ≡ true
  pub is : is_for m t n fact ≡ true
