use Rattle.std.proofs.Common.{◌≡◌, drop}
use Rattle.item_audit.specs.Handing.{ascend}
use Rattle.item_audit.proofs.key_rules.ascend.Given as goal

abbrev pub invariant-loop-place : goal.invariant-loop-place
invariant-loop-place l = ascend l.node l.bits l.last (drop l.place l.keys) ≡ ascend l.node l.bits l.above l.keys
