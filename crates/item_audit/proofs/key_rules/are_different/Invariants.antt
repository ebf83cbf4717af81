use Rattle.std.proofs.Common.{◌≡◌, ◌-◌}
use Rattle.item_audit.specs.Handing.{are_different}
use Rattle.item_audit.proofs.key_rules.are_different.Given as goal

abbrev pub invariant-loop-steps : goal.invariant-loop-steps
invariant-loop-steps l = are_different l.names (l.count - l.steps) ≡ are_different l.names l.count
