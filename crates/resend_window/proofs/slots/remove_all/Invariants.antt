use Rattle.std.proofs.Common.{◌≡◌, ℕ, ◌<◌, ◌-◌, length, Option, Some}
use Rattle.std.specs.Prelude.{slice_get, map}
use Rattle.resend_window.specs.declared.held.Held.{Held}
use Rattle.resend_window.specs.Dues.{IsListed}
use Rattle.resend_window.specs.Slots.{removed, is_asked}
use Rattle.resend_window.proofs.slots.remove_all.Given as goal

abbrev pub invariant-loop-place : goal.invariant-loop-place
invariant-loop-place l = record {
  same : map (removed (is_asked l.query)) l.slots ≡ map (removed (is_asked l.query)) l.fn.slots;
  done : (p : ℕ) (x : Option Held) → p < l.from → slice_get l.slots p ≡ Some x → removed (is_asked l.query) x ≡ x;
  listed : IsListed l.slots l.index l.dues;
}

abbrev pub decreases-loop-place : goal.decreases-loop-place
decreases-loop-place l = length l.slots - l.from
