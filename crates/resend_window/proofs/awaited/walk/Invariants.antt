use Rattle.std.proofs.Common.{◌≡◌, ℕ, ◌<◌, ◌≤◌, false, Option, Some}
use Rattle.std.specs.Prelude.{slice_get}
use Rattle.resend_window.specs.declared.awaited.Awaited.{Awaited}
use Rattle.resend_window.specs.Slots.{passes}
use Rattle.resend_window.specs.Lists.{is_same}
use Rattle.resend_window.proofs.awaited.walk.Given as goal

abbrev pub invariant-loop-place : goal.invariant-loop-place
invariant-loop-place l = (p : ℕ) (x : Option Awaited) → l.from ≤ p → p < l.place → slice_get l.awaiting p ≡ Some x → passes (is_same l.wanted) x ≡ false
