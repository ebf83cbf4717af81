use Rattle.std.proofs.Common.{◌≡◌, ℕ, ◌<◌, ◌-◌, false, length, Option, Some}
use Rattle.std.specs.Prelude.{slice_get}
use Rattle.resend_window.specs.declared.held.Held.{Held}
use Rattle.resend_window.specs.Slots.{passes}
use Rattle.resend_window.specs.Dues.{goes_at}
use Rattle.resend_window.proofs.slots.is_due_at.Given as goal

abbrev pub invariant-loop-place : goal.invariant-loop-place
invariant-loop-place l = (p : ℕ) (o : Option Held) → p < l.from → slice_get l.slots p ≡ Some o → passes (goes_at l.lane l.offset) o ≡ false

abbrev pub decreases-loop-place : goal.decreases-loop-place
decreases-loop-place l = length l.slots - l.from
