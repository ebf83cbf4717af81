-- The lines of a scenario, by number.
use Rattle.std.specs.Prelude.{ℕ, ◌==◌, List, [], ◌∷◌, Option, Some, None, if◌then◌else◌}
use Rattle.std.specs.List.{flat_map}
use Rattle.std.specs.Option.{option_map}
use Rattle.run_types.specs.declared.command.Command.{Command}
use Rattle.run_types.specs.declared.line.Line.{Line}
use Rattle.run_types.specs.declared.entry.Entry.{Entry}
use Rattle.run_types.specs.declared.entry.Entry.TheVariants as entries
use Rattle.run_types.specs.declared.scenario.Scenario.{Scenario}

abbrev pub lines_in : Entry → List Line
lines_in (entries.Line l) = l ∷ []
lines_in (entries.Block ls) = ls

-- the first of these lines that has the number
abbrev pub line_with : (number : ℕ) → List Line → Option Line
line_with number [] = None
line_with number (l ∷ ls) = if l.number == number then Some l else line_with number ls

-- what the line with this number asks for
abbrev pub command_at : Scenario → (number : ℕ) → Option Command
command_at s number = option_map (λ (l : Line). l.command) (line_with number (flat_map lines_in s.entries))
