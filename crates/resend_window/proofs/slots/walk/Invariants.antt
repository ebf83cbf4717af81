use Rattle.std.proofs.Common.{◌≡◌, ℕ, ◌<◌, ◌≤◌, false, Option, Some}
use Rattle.std.specs.Prelude.{slice_get}
use Rattle.resend_window.specs.declared.held.Held.{Held}
use Rattle.resend_window.specs.Slots.{passes, is_asked}
use Rattle.resend_window.proofs.slots.walk.Given as goal

abbrev pub invariant-loop-place : goal.invariant-loop-place
invariant-loop-place l = (p : ℕ) (x : Option Held) → l.from ≤ p → p < l.place → slice_get l.slots p ≡ Some x → passes (is_asked l.query) x ≡ false
