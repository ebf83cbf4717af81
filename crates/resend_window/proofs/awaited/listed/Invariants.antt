use Rattle.std.proofs.Common.{take}
use Rattle.std.specs.Prelude.{map}
use Rattle.resend_window.specs.Catalogued.{Catalogues}
use Rattle.resend_window.specs.Groups.{awaited_groups}
use Rattle.resend_window.proofs.awaited.listed.Given as goal

abbrev pub invariant-loop-place : goal.invariant-loop-place
invariant-loop-place l = Catalogues (map awaited_groups (take l.place l.awaiting)) l.index
