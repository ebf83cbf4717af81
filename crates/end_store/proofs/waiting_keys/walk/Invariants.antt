use Rattle.std.proofs.Common.{◌≡◌, ℕ, ◌<◌, ◌≤◌, false}
use Rattle.end_store.specs.Waiting.{is_waiting}
use Rattle.end_store.proofs.waiting_keys.walk.Given as goal

abbrev pub invariant-loop-count : goal.invariant-loop-count
invariant-loop-count l = (d : ℕ) → l.from ≤ d → d < l.count → is_waiting l.known.me l.known.facts l.handed.pairs l.line d ≡ false
