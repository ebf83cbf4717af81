use Rattle.std.proofs.Common.{◌≡◌, ℕ, ◌<◌, ◌-◌, length, Option, Some}
use Rattle.std.specs.Prelude.{slice_get, map}
use Rattle.resend_window.specs.declared.awaited.Awaited.{Awaited}
use Rattle.resend_window.specs.Catalogued.{Catalogues}
use Rattle.resend_window.specs.Groups.{awaited_groups}
use Rattle.resend_window.specs.Slots.{removed}
use Rattle.resend_window.specs.Lists.{is_same}
use Rattle.resend_window.proofs.awaited.remove_all.Given as goal

abbrev pub invariant-loop-place : goal.invariant-loop-place
invariant-loop-place l = record {
  same : map (removed (is_same l.wanted)) l.awaiting ≡ map (removed (is_same l.wanted)) l.fn.awaiting;
  done : (p : ℕ) (x : Option Awaited) → p < l.from → slice_get l.awaiting p ≡ Some x → removed (is_same l.wanted) x ≡ x;
  index : Catalogues (map awaited_groups l.awaiting) l.index;
}

abbrev pub decreases-loop-place : goal.decreases-loop-place
decreases-loop-place l = length l.awaiting - l.from
