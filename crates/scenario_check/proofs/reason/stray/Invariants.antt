use Rattle.std.proofs.Common.{◌≡◌, drop}
use Rattle.scenario_check.specs.Reasons.{stray_of}
use Rattle.scenario_check.proofs.reason.stray.Given as goal

abbrev pub invariant-loop-b : goal.invariant-loop-b
invariant-loop-b l = stray_of (drop l.b-index l.line) ≡ stray_of l.line
