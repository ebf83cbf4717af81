use Rattle.std.proofs.Common.{List, ◌++◌, map, take}
use Rattle.net_model.specs.declared.record.Record.{Record}
use Rattle.net_model.specs.declared.record.Record.TheVariants.{Handed}
use Rattle.kme_journal.specs.Batches.{Gathers}
use Rattle.kme_journal.proofs.marks.list_handed.Given as goal

abbrev pub invariant-loop-name : goal.invariant-loop-name
invariant-loop-name l = (rs : List Record) → Gathers l.initial.batches rs → Gathers l.batches (rs ++ map (λ h. Handed h.0 h.1) (take l.name-index l.pairs))
