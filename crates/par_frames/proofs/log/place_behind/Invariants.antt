use Rattle.std.proofs.Common.{◌≡◌, ◌+◌, drop}
use Rattle.par_frames.specs.Adding.{place_behind}
use Rattle.par_frames.proofs.log.place_behind.Given as goal

abbrev pub invariant-loop-i : goal.invariant-loop-i
invariant-loop-i l = place_behind l.fn.frame l.fn.all ≡ l.i + place_behind l.fn.frame (drop l.i l.fn.all)
