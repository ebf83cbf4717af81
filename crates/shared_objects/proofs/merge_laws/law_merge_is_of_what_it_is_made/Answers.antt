use Rattle.shared_objects.proofs.Making.{made_of}
use Rattle.shared_objects.proofs.merge_laws.law_merge_is_of_what_it_is_made.Goals as goal

pub returns : goal.returns
returns g c made kept out h = made_of made kept out h
