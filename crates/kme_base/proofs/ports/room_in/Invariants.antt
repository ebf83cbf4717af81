use Rattle.kme_base.proofs.Ends.{IsRoomed}
use Rattle.kme_base.proofs.ports.room_in.Given as goal

abbrev pub invariant-loop-end : goal.invariant-loop-end
invariant-loop-end l = IsRoomed l.link l.end-index l.initial.ends l.ends
