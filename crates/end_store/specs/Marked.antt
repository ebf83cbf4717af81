-- Sets of pairs of a name and an application, and the index in which they are found.
use Rattle.std.specs.Prelude.{◌≡◌, ℕ, ◌≤◌, true, List, [], ◌∷◌, length, take}
use Rattle.qkd_base.specs.Name.{Name}
use Rattle.net_model.specs.Table.{was_handed}
use Rattle.ordered_set.specs.Entries.{has_entry}
use Rattle.relay_core.specs.Index.{origin_number}

-- the pairs in the order in which they were added, and for how many more there is room
pub record Marked : Type 0 where
  pub pairs : List (Name × ℕ)
  pub spare : ℕ

-- the index entry of a pair: the count stands first, since it differs most
abbrev pub mark_entry : Name → ℕ → List ℕ
mark_entry n sae = n.count ∷ origin_number n ∷ sae ∷ 0 ∷ 0 ∷ []

-- each of the first pairs has an entry, and every entry is that of some pair
pub record AreMarked (pairs : List (Name × ℕ)) (entries : List (List ℕ)) (count : ℕ) : Type 0 where
  pub within : count ≤ length pairs
  pub sound : (n : Name) (sae : ℕ) → has_entry entries (mark_entry n sae) ≡ true → was_handed pairs n sae ≡ true
  pub complete : (n : Name) (sae : ℕ) → was_handed (take count pairs) n sae ≡ true → has_entry entries (mark_entry n sae) ≡ true
