use Rattle.std.proofs.Common.{◌≡◌, ◌++◌, ◌∷◌, drop}
use lib.Chars.{codes}
use Rattle.report_text.proofs.Spaced.{written}
use Rattle.report_text.proofs.key_items.keys.Given as goal

abbrev pub invariant-loop-of : goal.invariant-loop-of
invariant-loop-of l = written l.line (drop l.of-index l.of-items) ≡ written (l.fn.line ++ 32 ∷ codes "keys") l.of-items
