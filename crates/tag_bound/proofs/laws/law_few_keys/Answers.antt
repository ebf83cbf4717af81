use Rattle.tag_bound.proofs.Bound.{few_keys_law}
use Rattle.tag_bound.proofs.laws.law_few_keys.Goals as goal

pub returns : goal.returns
returns c = few_keys_law
