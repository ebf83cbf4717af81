use Rattle.shared_objects.proofs.Mapping.{merge_map}
use Rattle.shared_objects.proofs.merge_laws.law_merge_is_mapped.Goals as goal

pub returns : goal.returns
returns g c f parts out h = merge_map f h
