use Rattle.shared_objects.proofs.Counting.{merges_count, merges_length}
use Rattle.shared_objects.proofs.merge_laws.law_merges_count_the_same.Goals as goal

pub returns : goal.returns
returns g c parts out other h k = (merges_length h k, λ p. merges_count p h k)
