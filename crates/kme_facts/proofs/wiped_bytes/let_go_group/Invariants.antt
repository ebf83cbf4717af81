use Rattle.std.proofs.Common.{length, ◌-◌}
use Rattle.kme_facts.specs.Settled.{LetsGo}
use Rattle.kme_facts.proofs.Settling.{AreSettledBelow}
use Rattle.kme_facts.proofs.wiped_bytes.let_go_group.Given as goal

abbrev pub invariant-loop-from : goal.invariant-loop-from
invariant-loop-from l = record { lets : LetsGo l.fn.streams l.streams; below : AreSettledBelow l.streams l.group l.from }

abbrev pub decreases-loop-from : goal.decreases-loop-from
decreases-loop-from l = length l.streams.ends.known.facts - l.from
