use Rattle.std.proofs.Common.{◌≡◌, ◌+◌, ◌-◌, ◌++◌, take, None}
use Rattle.resend_window.specs.Kept.{somes}
use Rattle.resend_window.specs.Repeating.{rest_after}
use Rattle.resend_window.proofs.due_repeats.repeats_of.Given as goal

abbrev pub invariant-loop-count : goal.invariant-loop-count
invariant-loop-count l =
    take 16 (rest_after (l.tick + 1) l.lane (somes l.slots.items) None) ≡ l.repeats ++ take (16 - l.count) (rest_after (l.tick + 1) l.lane (somes l.slots.items) l.after)
