use Rattle.kme_base.proofs.Ends.{IsTaken}
use Rattle.kme_base.proofs.ports.take_in.Given as goal

abbrev pub invariant-loop-end : goal.invariant-loop-end
invariant-loop-end l = IsTaken l.link l.number l.bytes l.end-index l.initial.ends l.ends
