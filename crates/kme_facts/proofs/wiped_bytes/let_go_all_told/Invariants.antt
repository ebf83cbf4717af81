use Rattle.std.proofs.Common.{ℕ, ◌<◌, ◌≤◌}
use Rattle.std.specs.Prelude.{slice_get, IfSome}
use Rattle.kme_facts.specs.Settled.{LetsGo, IsToldSettled}
use Rattle.kme_facts.proofs.wiped_bytes.let_go_all_told.Given as goal

abbrev pub invariant-loop-place : goal.invariant-loop-place
invariant-loop-place l =
    record { lets : LetsGo l.fn.streams l.streams; settled : (p : ℕ) → l.fn.from ≤ p → p < l.place → IfSome (slice_get l.streams.ends.known.acked p) (IsToldSettled l.streams) }
