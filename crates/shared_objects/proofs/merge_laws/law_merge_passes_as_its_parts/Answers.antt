use Rattle.shared_objects.proofs.Holding.{merge_test}
use Rattle.shared_objects.proofs.merge_laws.law_merge_passes_as_its_parts.Goals as goal

pub returns : goal.returns
returns g c p parts out h = merge_test p h
