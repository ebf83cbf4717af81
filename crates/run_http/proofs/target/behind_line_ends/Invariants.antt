use Rattle.std.proofs.Common.{◌≡◌, drop}
use Rattle.run_http.specs.LineEnds.{behind_line_ends}
use Rattle.run_http.proofs.target.behind_line_ends.Given as goal

abbrev pub invariant-loop-i : goal.invariant-loop-i
invariant-loop-i l = behind_line_ends (drop l.i l.text) ≡ behind_line_ends l.text
