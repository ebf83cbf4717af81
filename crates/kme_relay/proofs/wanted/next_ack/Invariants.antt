use Rattle.std.proofs.Common.{◌≡◌, length}
use Rattle.qkd_base.specs.Lane.{reverse_lane}
use Rattle.resend_window.specs.Kept.{pending_from}
use Rattle.kme_relay.specs.Wanted.{acks_from}
use Rattle.kme_relay.proofs.wanted.next_ack.Given as goal

abbrev pub invariant-loop-pending : goal.invariant-loop-pending
invariant-loop-pending l = acks_from l.window l.lane l.from ≡ acks_from l.window l.lane l.next

abbrev pub decreases-loop-pending : goal.decreases-loop-pending
decreases-loop-pending l = length (pending_from l.window (reverse_lane l.lane) l.next)
