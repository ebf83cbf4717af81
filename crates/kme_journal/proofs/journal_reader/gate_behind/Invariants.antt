use Rattle.std.proofs.Common.{◌≡◌, ◌+◌, length, take}
use Rattle.range_journal.specs.Batches.{spelled}
use Rattle.kme_journal.proofs.journal_reader.gate_behind.Given as goal

abbrev pub invariant-loop-octets : goal.invariant-loop-octets
invariant-loop-octets l = l.gate ≡ l.start + length (spelled (take l.octets-index l.batches))
