-- Batches that were read from a journal.
use Rattle.std.specs.Prelude.{◌≡◌, List, length}
use Rattle.std.specs.List.{AllByRecursion}
use Rattle.net_model.specs.declared.record.Record.{Record}
use Rattle.net_model.specs.declared.record.Record.TheVariants.{Block}

-- a block has 1,024 octets
abbrev pub IsWhole : Record → Type 0
IsWhole (Block link number bytes) = length bytes ≡ 1024
IsWhole r = Unit {0}

abbrev pub AreWhole : List Record → Type 0
AreWhole batch = AllByRecursion IsWhole batch
