-- Kinds of scenario lines: those of a generated load, and those that hand out or report nothing.
use Rattle.std.specs.Prelude.{◌==◌, not, Bool, true, false}
use Rattle.run_types.specs.declared.command.Command.{Command}
use Rattle.run_types.specs.declared.command.Command.TheVariants as commands
use Rattle.run_types.specs.declared.entry.Entry.{Entry}
use Rattle.run_types.specs.declared.entry.Entry.TheVariants as entries
use Rattle.run_model.specs.Report.{Task, Begins, Does}

-- The line is of a kind that a load has. A slave that asks for keys isn't their master.
abbrev pub is_of_load : Command → Bool
is_of_load (commands.Bits link ends count) = true
is_of_load (commands.Fill master slave bits count) = true
is_of_load (commands.Settle rounds) = true
is_of_load (commands.Enc v master slave count bits) = true
is_of_load (commands.Dec v slave master names) = not (slave == master)
is_of_load (commands.Ledger lane) = true
is_of_load _ = false

-- The line asks for no keys.
abbrev pub is_unhanding : Command → Bool
is_unhanding (commands.Bits link ends count) = true
is_unhanding (commands.Fill master slave bits count) = true
is_unhanding (commands.Settle rounds) = true
is_unhanding (commands.Ledger lane) = true
is_unhanding _ = false

abbrev pub is_ledger_line : Command → Bool
is_ledger_line (commands.Ledger lane) = true
is_ledger_line _ = false

-- The entry, or the task, is of a kind that a load has.

abbrev pub is_load_entry : Entry → Bool
is_load_entry (entries.Line line) = is_of_load line.command
is_load_entry (entries.Block lines) = false

abbrev pub is_load_task : Task → Bool
is_load_task (Begins number v) = true
is_load_task (Does entry) = is_load_entry entry

-- The task reports no ledger: it is a start, or a line that isn't a ledger line.
abbrev pub has_no_ledger : Task → Bool
has_no_ledger (Begins number v) = true
has_no_ledger (Does (entries.Line line)) = not (is_ledger_line line.command)
has_no_ledger (Does (entries.Block lines)) = false

-- The task reports only ledgers.
abbrev pub is_ledger_task : Task → Bool
is_ledger_task (Begins number v) = false
is_ledger_task (Does (entries.Line line)) = is_ledger_line line.command
is_ledger_task (Does (entries.Block lines)) = false
