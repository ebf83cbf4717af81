use Rattle.std.proofs.Common.{◌≡◌, ◌+◌, take}
use Rattle.resend_window.specs.Kept.{somes}
use Rattle.resend_window.specs.Lists.{IsLeast}
use Rattle.resend_window.specs.Repeating.{goes_after}
use Rattle.resend_window.proofs.slots.walk_offsets.Given as goal

abbrev pub invariant-loop-slot : goal.invariant-loop-slot
invariant-loop-slot l = IsLeast (goes_after (l.tick + 1) l.lane l.after) (somes (take l.slot-index l.slots)) l.least
