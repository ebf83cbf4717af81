use Rattle.std.proofs.Common.{◌≡◌, ℕ, ◌<◌, ◌≤◌, false, Some}
use Rattle.std.specs.Prelude.{slice_get}
use Rattle.net_model.specs.declared.fact.Fact.{Fact}
use Rattle.relay_core.specs.Index.{belongs}
use Rattle.relay_core.proofs.index_entries.walk.Given as goal

abbrev pub invariant-loop-place : goal.invariant-loop-place
invariant-loop-place l = (p : ℕ) (x : Fact) → l.from ≤ p → p < l.place → slice_get l.facts p ≡ Some x → belongs l.me l.acked l.group x ≡ false
