use Rattle.std.proofs.Common.{length, ◌-◌}
use Rattle.end_store.specs.Waiting.{AreWaiting}
use Rattle.end_store.proofs.index_entries.list_more.Given as goal

abbrev pub invariant-loop-place : goal.invariant-loop-place
invariant-loop-place l = AreWaiting l.known.me l.known.facts l.handed.pairs l.index l.place

abbrev pub decreases-loop-place : goal.decreases-loop-place
decreases-loop-place l = length l.known.facts - l.place
