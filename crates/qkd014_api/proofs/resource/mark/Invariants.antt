use Rattle.std.proofs.Common.{◌≡◌, ℕ, ◌<◌, get_or, true, not, eqb}
use Rattle.qkd014_api.proofs.resource.mark.Given as goal

abbrev pub invariant-loop-place : goal.invariant-loop-place
invariant-loop-place l = (k : ℕ) → k < l.place → not (eqb (get_or l.target k 0) 63) ≡ true
