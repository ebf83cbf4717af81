-- Rule 7: the items of a report stand in order of their lines, and each line gives what it must give.
use Rattle.std.specs.Prelude.{ℕ, Bool, true, false, not, ◌&&◌, ◌||◌, ◌==◌, nat_lt, if◌then◌else◌, List, [], ◌∷◌, Option, Some, None, is_some}
use Rattle.std.specs.List.{list_any, list_all}
use Rattle.run_types.specs.declared.command.Command.{Command}
use Rattle.run_types.specs.declared.command.Command.TheVariants as commands
use Rattle.run_types.specs.declared.line.Line.{Line}
use Rattle.run_types.specs.declared.entry.Entry.{Entry}
use Rattle.run_types.specs.declared.entry.Entry.TheVariants as entries
use Rattle.run_types.specs.declared.scenario.Scenario.{Scenario}
use Rattle.run_types.specs.declared.item.NumberedItem.{NumberedItem}
use Rattle.whole_audit.specs.Lines.{command_at}
use Rattle.whole_audit.specs.Rests.{rest_of, owes_if}

-- The line may give more than one item.
abbrev pub gives_more : Command → Bool
gives_more (commands.Bits link ends count) = true
gives_more (commands.Tick node) = true
gives_more (commands.Settle rounds) = true
gives_more _ = false

-- The line may give no item: in a settle nothing may have been to be done.
abbrev pub may_be_silent : Command → Bool
may_be_silent (commands.Settle rounds) = true
may_be_silent _ = false

-- An item with this number may be the line's: its only one, or one of several. `came` says which numbers came before.
abbrev pub takes_line : (came : ℕ → Bool) → (number : ℕ) → Line → Bool
takes_line came number l = (l.number == number) && (gives_more l.command || not (came number))

abbrev pub takes : (came : ℕ → Bool) → (number : ℕ) → Entry → Bool
takes came number (entries.Line l) = takes_line came number l
takes came number (entries.Block ls) = list_any (takes_line came number) ls

-- The line has an item, if it needs one, and has given all. `owing` says which lines have to give more.
abbrev pub line_is_over : (came owing : ℕ → Bool) → Line → Bool
line_is_over came owing l = (may_be_silent l.command || came l.number) && not (owing l.number)

abbrev pub is_over : (came owing : ℕ → Bool) → Entry → Bool
is_over came owing (entries.Line l) = line_is_over came owing l
is_over came owing (entries.Block ls) = list_all (line_is_over came owing) ls

-- The entries from the one on that takes an item with this number. Those before it are over.
abbrev pub left_behind : (came owing : ℕ → Bool) → (number : ℕ) → List Entry → Option (List Entry)
left_behind came owing number [] = None
left_behind came owing number (e ∷ es) = if takes came number e then Some (e ∷ es) else if is_over came owing e then left_behind came owing number es else None

abbrev pub left_with : (came owing : ℕ → Bool) → (number : ℕ) → Option (List Entry) → Option (List Entry)
left_with came owing number None = None
left_with came owing number (Some es) = left_behind came owing number es

-- an item with this number is among these
abbrev pub has_come : List NumberedItem → ℕ → Bool
has_come before number = list_any (λ (t : NumberedItem). t.number == number) before

-- A line has to give more: it has an item, but not all.
abbrev pub owing : Scenario → List NumberedItem → ℕ → Bool
owing s before number = has_come before number && owes_if (command_at s number) (rest_of s number before)

abbrev pub declares_node : Scenario → ℕ → Bool
declares_node s number = list_any (λ n. n == number) s.node_lines

-- the number is greater than all before
abbrev pub is_above : ℕ → List NumberedItem → Bool
is_above number before = list_all (λ (t : NumberedItem). nat_lt t.number number) before

-- The entries that are left behind these items, if all stand in order. Items of lines that declare nodes stand first, in order.
abbrev pub left : Scenario → List NumberedItem → Option (List Entry)
left s [] = Some s.entries
left s (t ∷ before) =
    if declares_node s t.number then (if is_above t.number before then left s before else None)
    else left_with (has_come before) (owing s before) t.number (left s before)

-- All entries that are left are over.
abbrev pub are_over : (came owing : ℕ → Bool) → Option (List Entry) → Bool
are_over came owing None = false
are_over came owing (Some es) = list_all (is_over came owing) es

-- The item stands in order behind those before it.
abbrev pub rule_7 : Scenario → List NumberedItem → NumberedItem → Bool
rule_7 s before t = is_some (left s (t ∷ before))

-- No line lacks an item, so that a report may end here.
abbrev pub may_end : Scenario → List NumberedItem → Bool
may_end s before = are_over (has_come before) (owing s before) (left s before)
