use Rattle.std.proofs.Common.{List, ◌++◌, take}
use Rattle.std.specs.List.{flat_map}
use Rattle.net_model.specs.declared.record.Record.{Record}
use Rattle.kme_base.specs.Places.{ports_in}
use Rattle.kme_journal.specs.Batches.{Gathers, blocks_of}
use Rattle.kme_journal.proofs.ports.list_all_blocks.Given as goal

abbrev pub invariant-loop-end : goal.invariant-loop-end
invariant-loop-end l = (rs : List Record) → Gathers l.initial.batches rs → Gathers l.batches (rs ++ flat_map blocks_of (take l.end-index (ports_in l.ends)))
