use Rattle.std.proofs.Common.{length, ◌-◌}
use Rattle.end_store.specs.Waiting.{AreWaiting}
use Rattle.end_store.proofs.index_entries.release_parts.Given as goal

abbrev pub invariant-loop-from : goal.invariant-loop-from
invariant-loop-from l = AreWaiting l.known.me l.known.facts l.handed.pairs l.index l.count

abbrev pub decreases-loop-from : goal.decreases-loop-from
decreases-loop-from l = length l.known.facts - l.from
