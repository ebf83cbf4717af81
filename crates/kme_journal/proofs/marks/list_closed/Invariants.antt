use Rattle.std.proofs.Common.{List, ◌++◌, map, take}
use Rattle.net_model.specs.declared.record.Record.{Record}
use Rattle.net_model.specs.declared.record.Record.TheVariants.{Closed}
use Rattle.kme_journal.specs.Batches.{Gathers}
use Rattle.kme_journal.proofs.marks.list_closed.Given as goal

abbrev pub invariant-loop-stream : goal.invariant-loop-stream
invariant-loop-stream l = (rs : List Record) → Gathers l.initial.batches rs → Gathers l.batches (rs ++ map (λ h. Closed h.0 h.1) (take l.stream-index l.pairs))
