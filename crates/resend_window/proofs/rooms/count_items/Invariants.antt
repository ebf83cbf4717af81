use Rattle.std.proofs.Common.{◌≡◌, take, length}
use Rattle.resend_window.specs.Kept.{somes}
use Rattle.resend_window.proofs.rooms.count_items.Given as goal

abbrev pub invariant-loop-slot : goal.invariant-loop-slot
invariant-loop-slot g l = l.count ≡ length (somes (take l.slot-index l.list))
