use Rattle.std.proofs.Common.{List, ◌++◌, map, take}
use Rattle.net_model.specs.declared.record.Record.{Record}
use Rattle.net_model.specs.declared.record.Record.TheVariants.{Acked}
use Rattle.kme_journal.specs.Batches.{Gathers}
use Rattle.kme_journal.proofs.marks.list_acked.Given as goal

abbrev pub invariant-loop-name : goal.invariant-loop-name
invariant-loop-name l = (rs : List Record) → Gathers l.initial.batches rs → Gathers l.batches (rs ++ map (λ n. Acked n) (take l.name-index l.names))
