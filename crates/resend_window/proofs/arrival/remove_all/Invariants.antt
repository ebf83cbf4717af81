use Rattle.std.proofs.Common.{◌≡◌, ℕ, ◌<◌, ◌-◌, length, Option, Some}
use Rattle.std.specs.Prelude.{slice_get, map}
use Rattle.resend_window.specs.declared.arrival.Arrival.{Arrival}
use Rattle.resend_window.specs.Catalogued.{Catalogues}
use Rattle.resend_window.specs.Groups.{arrival_groups}
use Rattle.resend_window.specs.Slots.{removed}
use Rattle.resend_window.specs.Lists.{is_from}
use Rattle.resend_window.proofs.arrival.remove_all.Given as goal

abbrev pub invariant-loop-place : goal.invariant-loop-place
invariant-loop-place l = record {
  same : map (removed (is_from l.wanted)) l.pending ≡ map (removed (is_from l.wanted)) l.fn.pending;
  done : (p : ℕ) (x : Option Arrival) → p < l.from → slice_get l.pending p ≡ Some x → removed (is_from l.wanted) x ≡ x;
  index : Catalogues (map arrival_groups l.pending) l.index;
}

abbrev pub decreases-loop-place : goal.decreases-loop-place
decreases-loop-place l = length l.pending - l.from
