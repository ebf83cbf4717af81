use Rattle.std.proofs.Common.{◌≡◌, ◌+◌, drop}
use Rattle.kme_base.specs.Places.{lane_need}
use Rattle.kme_base.proofs.needs.left_behind.Given as goal

abbrev pub invariant-loop-order : goal.invariant-loop-order
invariant-loop-order l = l.left + lane_need l.lane l.orders ≡ l.bytes + lane_need l.lane (drop l.order-index l.orders)
