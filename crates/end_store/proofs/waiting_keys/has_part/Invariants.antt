use Rattle.std.proofs.Common.{◌≡◌, ℕ, ◌<◌, length, ◌-◌, Some, false}
use Rattle.std.specs.Prelude.{slice_get}
use Rattle.net_model.specs.declared.fact.Fact.{Fact}
use Rattle.end_store.specs.Waiting.{is_part_in}
use Rattle.end_store.proofs.waiting_keys.has_part.Given as goal

abbrev pub invariant-loop-from : goal.invariant-loop-from
invariant-loop-from l = (p : ℕ) (x : Fact) → p < l.from → slice_get l.known.facts p ≡ Some x → is_part_in l.pool l.key x ≡ false

abbrev pub decreases-loop-from : goal.decreases-loop-from
decreases-loop-from l = length l.known.facts - l.from
