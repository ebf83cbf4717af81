use Rattle.shared_objects.proofs.Placing.{placed_calls_merge}
use Rattle.shared_objects.proofs.merge_laws.law_placed_calls_are_a_merge.Goals as goal

pub returns : goal.returns
returns g c = placed_calls_merge
