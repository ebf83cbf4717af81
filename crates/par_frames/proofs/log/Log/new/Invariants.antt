use Rattle.std.proofs.Common.{◌≡◌, ℕ, List, [], true, length, Some}
use Rattle.std.specs.Prelude.{slice_get}
use Rattle.net_model.specs.declared.placing.Placing.{Placing}
use Rattle.par_frames.proofs.log.Log.new.Given as goal

abbrev pub invariant-loop : goal.invariant-loop
invariant-loop l = record {
  frames : l.log.frames.items ≡ [];
  refused' : l.log.refused.items ≡ [];
  nodes' : l.log.is_whole ≡ true → length l.log.placings.items ≡ l.counter;
  none : (v : ℕ) (xs : List Placing) → slice_get l.log.placings.items v ≡ Some xs → xs ≡ [];
}
