use Rattle.std.proofs.Common.{◌≡◌, ℕ, ◌<◌, get_or, true, not, eqb}
use Rattle.scenario_text.proofs.words.len_to.Given as goal

abbrev pub invariant-loop-i : goal.invariant-loop-i
invariant-loop-i l = (k : ℕ) → k < l.i → not (eqb (get_or l.bytes k 0) l.stop) ≡ true
