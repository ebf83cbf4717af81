use Rattle.std.proofs.Common.{List, ◌++◌, take}
use Rattle.std.specs.List.{flat_map}
use Rattle.net_model.specs.declared.record.Record.{Record}
use Rattle.net_model.specs.Journal.{lease_records}
use Rattle.kme_base.specs.Places.{ports_in}
use Rattle.kme_journal.specs.Batches.{Gathers}
use Rattle.kme_journal.proofs.ports.list_leases.Given as goal

abbrev pub invariant-loop-end : goal.invariant-loop-end
invariant-loop-end l = (rs : List Record) → Gathers l.initial.batches rs → Gathers l.batches (rs ++ flat_map lease_records (take l.end-index (ports_in l.ends)))
