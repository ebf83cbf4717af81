-- The lines of the report of a served scenario.
use Rattle.std.specs.Prelude.{◌≡◌, ◌⊎◌, ℕ, List}
use Rattle.run_types.specs.Texts.{served_text}
use Rattle.run_lines.specs.Reporting.{IsItemLine}

-- the line that counts the connections served
abbrev pub IsServedLine : List ℕ → Type 0
IsServedLine line = (count : ℕ) × (line ≡ served_text count)

-- the line that counts the connections, or the line of an item
abbrev pub IsServeLine : List (List ℕ) → List ℕ → Type 0
IsServeLine nodes line = IsItemLine nodes line ⊎ IsServedLine line
