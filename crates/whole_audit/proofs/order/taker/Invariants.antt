use Rattle.std.proofs.Common.{◌≡◌, drop}
use Rattle.whole_audit.specs.Order.{left_behind}
use Rattle.whole_audit.specs.Kept.{has_number}
use Rattle.whole_audit.proofs.order.taker.Given as goal

abbrev pub invariant-loop-place : goal.invariant-loop-place
invariant-loop-place l = left_behind (has_number l.came) (has_number l.owing) l.number (drop l.place l.entries) ≡ left_behind (has_number l.came) (has_number l.owing) l.number (drop l.from l.entries)
