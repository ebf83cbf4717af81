use Rattle.std.proofs.Common.{◌≡◌, ℕ, ◌<◌, ◌-◌, length, Option, Some}
use Rattle.std.specs.Prelude.{slice_get, map}
use Rattle.resend_window.specs.declared.held.Held.{Held}
use Rattle.resend_window.specs.Slots.{edited}
use Rattle.resend_window.specs.Dues.{IsListed}
use Rattle.resend_window.proofs.slots.change_all.Given as goal

abbrev pub invariant-loop-place : goal.invariant-loop-place
invariant-loop-place l = record {
  same : map (edited l.query l.change) l.slots ≡ map (edited l.query l.change) l.fn.slots;
  listed : IsListed l.slots l.index l.dues;
  done : (p : ℕ) (x : Option Held) → p < l.from → slice_get l.slots p ≡ Some x → edited l.query l.change x ≡ x;
}

abbrev pub decreases-loop-place : goal.decreases-loop-place
decreases-loop-place l = length l.slots - l.from
