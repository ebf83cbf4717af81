-- Entries that are lines, and entries that are blocks.
use Rattle.std.specs.Prelude.{Bool, true, false, List}
use Rattle.std.specs.List.{list_any}
use Rattle.declared_site.specs.declared.site.Site.{Site as Declared}
use Rattle.run_types.specs.declared.entry.Entry.{Entry}
use Rattle.run_types.specs.declared.entry.Entry.TheVariants as entries
use Rattle.run_ops.specs.Runnable.{IsCommandFor}

-- The entry is a block: lines that workers do side by side.
abbrev pub is_block : Entry → Bool
is_block (entries.Line line) = false
is_block (entries.Block lines) = true

abbrev pub has_block : List Entry → Bool
has_block entries = list_any is_block entries

-- The entry is a line that fits the site, not a block.
abbrev pub IsLineFor : Declared → Entry → Type 0
IsLineFor d (entries.Line line) = IsCommandFor d line.command
IsLineFor d (entries.Block lines) = ⊥
