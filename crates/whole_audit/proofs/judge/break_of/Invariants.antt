use Rattle.whole_audit.proofs.Deciding.{IsSoFar}
use Rattle.whole_audit.proofs.judge.break_of.Given as goal

abbrev pub invariant-loop-place : goal.invariant-loop-place
invariant-loop-place l = IsSoFar l.scenario l.judge l.items l.place
