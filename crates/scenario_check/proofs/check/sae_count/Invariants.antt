use Rattle.std.proofs.Common.{◌≤◌, length}
use Rattle.scenario_check.proofs.check.sae_count.Given as goal

abbrev pub invariant-loop-number : goal.invariant-loop-number
invariant-loop-number l = l.number ≤ length l.entitlements.saes
