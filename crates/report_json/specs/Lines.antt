-- The text of a report as JSON: an object on each line.
use Rattle.std.specs.Prelude.{ℕ, List, [], ◌∷◌, ◌++◌}
use Rattle.serde_json.specs.Written.{compact_text}
use Rattle.run_types.specs.declared.item.NumberedItem.{NumberedItem}
use Rattle.report_json.specs.declared.place.Place.{Place}
use Rattle.report_json.specs.Objects.{object_of}
use Rattle.report_json.specs.Rounds.{start, round_of, behind}

-- the line of an item: its object without white space, and a line feed
unfoldable pub json_line : List (List ℕ) → (round : ℕ) → NumberedItem → List ℕ
json_line nodes round told = compact_text (object_of nodes round told) ++ 10 ∷ []

-- the lines of the items behind a place
abbrev pub lines_from : List (List ℕ) → Place → List NumberedItem → List ℕ
lines_from nodes place [] = []
lines_from nodes place (told ∷ items) = json_line nodes (round_of place told) told ++ lines_from nodes (behind place told) items

abbrev pub json_of : List (List ℕ) → List NumberedItem → List ℕ
json_of nodes items = lines_from nodes start items
