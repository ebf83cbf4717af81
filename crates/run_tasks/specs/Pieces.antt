-- The kinds of lines in a load's report.
use Rattle.std.specs.Prelude.{◌≡◌, ◌⊎◌, ℕ, List}
use Rattle.run_types.specs.Texts.{handed_text}
use Rattle.run_lines.specs.Reporting.{IsItemLine}

-- a line with the numbers of keys that were handed to masters and to slaves
abbrev pub IsHandedLine : List ℕ → Type 0
IsHandedLine line = (masters : ℕ) × ((slaves : ℕ) × (line ≡ handed_text masters slaves))

-- such a line, or the line of an item
abbrev pub IsLoadLine : List (List ℕ) → List ℕ → Type 0
IsLoadLine nodes line = IsItemLine nodes line ⊎ IsHandedLine line
