-- The place of the first octet at which a text differs from all lines of a report.
use Rattle.std.specs.Prelude.{◌≡◌, ◌≤◌, ◌<◌, ℕ, List, length, Result, Ok, Err}
use Rattle.run_types.specs.declared.item.NumberedItem.{NumberedItem}
use Rattle.run_types.specs.Texts.{line_text}
use Rattle.report_grammar.specs.Tellable.{HasName, CanTell}
use Rattle.report_parser.specs.declared.part.Part.TheVariants as parts
use Rattle.report_parser.specs.declared.refusal.ReportRefusal.{ReportRefusal}
use Rattle.report_parser.specs.declared.refusal.ReportRefusal.TheVariants.{NotALine, Memory}
use Rattle.report_parser.specs.Runs.{common}
use Rattle.report_parser.specs.Walk.{part_reach}
use Rattle.report_parser.specs.Rows.{item_reach}

-- the reach of a line: a number, and behind it an item
unfoldable pub line_reach : (nodes : List (List ℕ)) → (line : List ℕ) → ℕ
line_reach nodes line = part_reach nodes parts.Number (item_reach nodes) line

-- No line of a report shares more than `place` leading octets with this line.
abbrev pub IsFitted : (nodes : List (List ℕ)) → (line : List ℕ) → (place : ℕ) → Type 0
IsFitted nodes line place = (told : NumberedItem) → CanTell nodes told → common (line_text nodes told) line ≤ place

-- Some line of a report shares exactly `place` leading octets with this line.
abbrev pub IsReached : (nodes : List (List ℕ)) → (line : List ℕ) → (place : ℕ) → Type 0
IsReached nodes line place = (told : NumberedItem) × CanTell nodes told × (common (line_text nodes told) line ≡ place)

-- Each declared node has a name that a line can tell.
abbrev pub AreNamed : (nodes : List (List ℕ)) → Type 0
AreNamed nodes = (v : ℕ) → v < length nodes → HasName nodes v

-- No line of a report shares more than `place` leading octets with the refused line. If all nodes have such names, some line shares that many.
abbrev pub IsMisfit : (nodes : List (List ℕ)) → (line : List ℕ) → ReportRefusal → Type 0
IsMisfit nodes line (NotALine place) = IsFitted nodes line place × (AreNamed nodes → IsReached nodes line place) × (place ≤ length line)
IsMisfit nodes line Memory = Unit {0}

-- The line was read as this, or memory ran out.
abbrev pub IsRead : NumberedItem → Result NumberedItem ReportRefusal → Type 0
IsRead told (Ok read) = read ≡ told
IsRead told (Err (NotALine place)) = ⊥
IsRead told (Err Memory) = Unit {0}
