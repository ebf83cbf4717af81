use Rattle.std.proofs.Common.{List, ◌++◌, take}
use Rattle.net_model.specs.declared.record.Record.{Record}
use Rattle.net_model.specs.Journal.{block_records}
use Rattle.kme_journal.specs.Batches.{Gathers}
use Rattle.kme_journal.proofs.ports.list_blocks.Given as goal

abbrev pub invariant-loop-number : goal.invariant-loop-number
invariant-loop-number l = (rs : List Record) → Gathers l.initial.batches rs → Gathers l.batches (rs ++ block_records l.link 0 (take l.number l.blocks))
