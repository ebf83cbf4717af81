use Rattle.shared_objects.proofs.CallMerge.{calls_merge}
use Rattle.shared_objects.proofs.merge_laws.law_calls_are_a_merge.Goals as goal

pub returns : goal.returns
returns g c = calls_merge
