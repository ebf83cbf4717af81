use Rattle.tag_bound.proofs.Meant.{keys_meant}
use Rattle.tag_bound.proofs.text_laws.law_keys_meant.Goals as goal

pub returns : goal.returns
returns c = keys_meant
