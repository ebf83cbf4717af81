use Rattle.std.proofs.Common.{◌≡◌, ℕ, ◌<◌, ◌≤◌, false, Option, Some}
use Rattle.std.specs.Prelude.{slice_get}
use Rattle.resend_window.specs.declared.arrival.Arrival.{Arrival}
use Rattle.resend_window.specs.Slots.{passes}
use Rattle.resend_window.specs.Lists.{is_from}
use Rattle.resend_window.proofs.arrival.walk.Given as goal

abbrev pub invariant-loop-place : goal.invariant-loop-place
invariant-loop-place l = (p : ℕ) (x : Option Arrival) → l.from ≤ p → p < l.place → slice_get l.pending p ≡ Some x → passes (is_from l.wanted) x ≡ false
