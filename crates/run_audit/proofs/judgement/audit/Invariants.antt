use Rattle.run_audit.proofs.Judging.{IsSoFar}
use Rattle.run_audit.proofs.judgement.audit.Given as goal

abbrev pub invariant-loop-place : goal.invariant-loop-place
invariant-loop-place l = IsSoFar l.scenario l.record l.items l.first l.place
