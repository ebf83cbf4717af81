use Rattle.std.proofs.Common.{◌≡◌, drop}
use Rattle.http_front.specs.Lines.{after_blank}
use Rattle.http_front.proofs.head.after_blank.Given as goal

abbrev pub invariant-loop-i : goal.invariant-loop-i
invariant-loop-i l = after_blank (drop l.i l.text) ≡ after_blank l.text
