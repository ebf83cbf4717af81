-- How the index changes when a fact is entered.
use Rattle.std.specs.Prelude.{◌≡◌, ℕ, ◌||◌, true, List, Option, Some, None, ◌⊎◌}
use Rattle.std.specs.Str.{bytes_eq}
use Rattle.net_model.specs.declared.fact.Fact.{Fact}
use Rattle.net_model.specs.Table.{name_of}
use Rattle.ordered_set.specs.Entries.{has_entry}
use Rattle.relay_core.specs.declared.group.Group.{Group}
use Rattle.relay_core.specs.declared.group.Group.TheVariants.{Named}
use Rattle.relay_core.specs.Index.{entry_of, second_of, third_of, owed_group}

-- The new index has exactly one further entry: that of a group and a place.
pub record Grows (old new : List (List ℕ)) (g : Group) (place : ℕ) : Type 0 where
  pub has : (e : List ℕ) → has_entry new e ≡ (bytes_eq (entry_of g place) e || has_entry old e)

abbrev pub GrowsBy : List (List ℕ) → List (List ℕ) → Option Group → ℕ → Type 0
GrowsBy old new None place = new ≡ old
GrowsBy old new (Some g) place = Grows old new g place

-- The group is one of the fact's own groups.
abbrev pub IsOwnGroup : Fact → Option ℕ → Group → Type 0
IsOwnGroup f to g = (g ≡ Named (name_of f)) ⊎ ((second_of f ≡ Some g) ⊎ ((third_of f ≡ Some g) ⊎ (owed_group to ≡ Some g)))

pub record IsOwnEntry (f : Fact) (to : Option ℕ) (place : ℕ) (e : List ℕ) : Type 0 where
  pub group : Group
  pub own : IsOwnGroup f to group
  pub is : e ≡ entry_of group place

-- The new index has all old entries, and otherwise only entries of the fact's own groups.
pub record IsPartlyListed (old new : List (List ℕ)) (f : Fact) (to : Option ℕ) (place : ℕ) : Type 0 where
  pub only : (e : List ℕ) → has_entry new e ≡ true → (has_entry old e ≡ true) ⊎ IsOwnEntry f to place e
  pub kept : (e : List ℕ) → has_entry old e ≡ true → has_entry new e ≡ true

-- The new index has an entry for each of the fact's own groups, and is otherwise unchanged.
pub record IsListed (old new : List (List ℕ)) (f : Fact) (to : Option ℕ) (place : ℕ) : Type 0 where
  pub partly : IsPartlyListed old new f to place
  pub all : (g : Group) → IsOwnGroup f to g → has_entry new (entry_of g place) ≡ true
