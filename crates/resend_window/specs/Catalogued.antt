-- Lists with empty slots, and the index from groups to places.
use Rattle.std.specs.Prelude.{◌≡◌, ℕ, zero, suc, true, List, [], ◌∷◌}
use Rattle.std.specs.List.{list_any}
use Rattle.std.specs.Str.{bytes_eq}
use Rattle.ordered_set.specs.Entries.{has_entry, entry_at}
use Rattle.resend_window.specs.declared.catalogue.Catalogue.{Catalogue}

-- the groups of the item at a place; an empty slot has none
abbrev pub groups_at : List (List (List ℕ)) → ℕ → List (List ℕ)
groups_at [] p = []
groups_at (g ∷ gs) zero = g
groups_at (g ∷ gs) (suc p) = groups_at gs p

-- the index has exactly the groups of these places
pub record IsCatalogue (keys : List (List (List ℕ))) (entries : List (List ℕ)) : Type 0 where
  pub has : (g : List ℕ) (p : ℕ) → has_entry entries (entry_at g p) ≡ list_any (bytes_eq g) (groups_at keys p)

-- an index that is whole has exactly these groups
abbrev pub Catalogues : List (List (List ℕ)) → Catalogue → Type 0
Catalogues keys c = c.is_whole ≡ true → IsCatalogue keys c.entries
