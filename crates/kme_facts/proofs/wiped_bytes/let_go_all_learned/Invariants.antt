use Rattle.std.proofs.Common.{ℕ, ◌<◌, ◌≤◌}
use Rattle.kme_facts.specs.Settled.{LetsGo, IsLearnedSettled}
use Rattle.kme_facts.proofs.wiped_bytes.let_go_all_learned.Given as goal

abbrev pub invariant-loop-place : goal.invariant-loop-place
invariant-loop-place l = record { lets : LetsGo l.fn.streams l.streams; settled : (p : ℕ) → l.fn.from ≤ p → p < l.place → IsLearnedSettled l.streams p }
