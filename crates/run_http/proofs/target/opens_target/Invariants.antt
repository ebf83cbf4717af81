use Rattle.std.proofs.Common.{◌≡◌, false, ltb, drop}
use Rattle.run_http.specs.LineEnds.{opens_target}
use Rattle.run_http.proofs.target.opens_target.Given as goal

abbrev pub invariant-loop-i : goal.invariant-loop-i
invariant-loop-i l = opens_target (ltb 0 l.i) (drop l.i l.line) ≡ opens_target false l.line
