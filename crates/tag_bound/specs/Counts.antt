-- How many keys give a difference, and the line that reports it.
use Rattle.std.specs.Prelude.{◌≡◌, ℕ, ◌++◌, List, [], ◌∷◌, Ok, Err}
use Rattle.std.specs.Fmt.{decimal}
use lib.Chars.{codes}
use Rattle.tag_bound.specs.declared.roots.RootCount.{RootCount}
use Rattle.tag_bound.specs.Differences.{count_giving, most_blocks}
use Rattle.tag_bound.specs.KeyLines.{Meaning}

-- the count of the keys that a text lists
pub record IsCountOf (a b : List ℕ) (difference : ℕ) (keys : List ℕ) (count : RootCount) : Type 0 where
  pub bound : count.bound ≡ most_blocks a b
  pub found : count.found ≡ count_giving a b difference keys

abbrev pub IsCount : List ℕ → List ℕ → ℕ → Meaning → RootCount → Type 0
IsCount a b difference (Ok keys) count = IsCountOf a b difference keys count
IsCount a b difference (Err n) count = ⊥

unfoldable pub bound_text : RootCount → List ℕ
bound_text count = codes "bound " ++ (decimal count.bound ++ (codes " found " ++ (decimal count.found ++ 10 ∷ [])))
