use Rattle.std.proofs.Common.{length, ◌-◌}
use Rattle.stream_core.proofs.Chunks.{HasChunks}
use Rattle.stream_core.proofs.tally_updates.count_chunks.Given as goal

abbrev pub invariant-loop-from : goal.invariant-loop-from
invariant-loop-from l = HasChunks l.ends.known.facts l.ends.handed l.stream l.source l.from l.chunks l.given

abbrev pub decreases-loop-from : goal.decreases-loop-from
decreases-loop-from l = length l.ends.known.facts - l.from
