-- The words of a text that has a space before each word. A word may be empty.
use Rattle.std.specs.Prelude.{ℕ, ◌-◌, Bool, true, false, List, [], ◌∷◌, length, take}
use Rattle.std.specs.List.{slice_split}
use Rattle.scenario_text.specs.Words.{Word, is_space}

unfoldable pub words_in : List ℕ → List Word
words_in [] = []
words_in (space ∷ rest) = slice_split is_space rest

-- There are no more words.
abbrev pub is_over : List Word → Bool
is_over [] = true
is_over (w ∷ ws) = false

-- all but the last octet
abbrev pub without_end : List ℕ → List ℕ
without_end text = take (length text - 1) text
