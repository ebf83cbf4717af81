use Rattle.std.proofs.Common.{take}
use Rattle.resend_window.specs.Dues.{HasDues}
use Rattle.resend_window.proofs.slots.all_due.Given as goal

abbrev pub invariant-loop-slot : goal.invariant-loop-slot
invariant-loop-slot l = HasDues (take l.slot-index l.slots) l.dues
