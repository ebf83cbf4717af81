use Rattle.std.proofs.Common.{◌≡◌, drop}
use Rattle.std.specs.List.{list_all}
use Rattle.whole_audit.specs.Order.{is_over}
use Rattle.whole_audit.specs.Kept.{has_number}
use Rattle.whole_audit.proofs.order.are_over.Given as goal

abbrev pub invariant-loop-place : goal.invariant-loop-place
invariant-loop-place l = list_all (is_over (has_number l.came) (has_number l.owing)) (drop l.place l.entries) ≡ list_all (is_over (has_number l.came) (has_number l.owing)) (drop l.from l.entries)
