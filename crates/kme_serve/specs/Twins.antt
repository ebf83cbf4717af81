-- Twins of listeners: second listeners at the same port.
use Rattle.std.specs.Prelude.{◌≡◌, ℕ, List, slice_get, slice_set, Some, IsSome, Result, MatchResult}
use Rattle.qkd_base.specs.Faults.{Rose}
use Rattle.edge_io.specs.Connections.{IsFirstQueue}
use Rattle.kme_serve.specs.Door.{Door}
use Rattle.kme_serve.specs.Doors.{Queues, IsNew}

-- One of these listeners was asked for a twin, and tells the same as before. Either the twin is new, at the same port, with the next
-- queue, or the listener failed.
pub record IsTwinned {D E : Type 0} (tell : D → Door) (failed : D → ℕ) (twins : D → Queues) (place : ℕ) (before after : List D) (result : Result D E) : Type 0 where
  pub asked : D
  pub asked_is : slice_get before place ≡ Some asked
  pub left : D
  pub after_is : after ≡ slice_set before place left
  pub same : tell left ≡ tell asked
  pub gives : MatchResult result
      (λ twin. IsNew tell failed (IsSome (tell asked).waiting × IsSome (tell asked).done) (tell asked).port twin × (failed left ≡ failed asked) × IsFirstQueue (twins asked) (tell twin).waiting (twins left))
      (λ e. Rose (failed asked) (failed left))
