use Rattle.std.proofs.Common.{◌≡◌, ℕ, ◌<◌, ◌≤◌, ◌-◌, false}
use Rattle.end_store.specs.Waiting.{is_waiting}
use Rattle.end_store.proofs.waiting_keys.next_listed.Given as goal

abbrev pub invariant-loop-start : goal.invariant-loop-start
invariant-loop-start l = record { after : l.from ≤ l.start; none : (d : ℕ) → l.from ≤ d → d < l.start → is_waiting l.known.me l.known.facts l.handed.pairs l.line d ≡ false }

abbrev pub decreases-loop-start : goal.decreases-loop-start
decreases-loop-start l = l.end - l.start
