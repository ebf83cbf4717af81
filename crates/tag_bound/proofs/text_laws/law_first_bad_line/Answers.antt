use Rattle.tag_bound.proofs.Meant.{first_bad_line}
use Rattle.tag_bound.proofs.text_laws.law_first_bad_line.Goals as goal

pub returns : goal.returns
returns c = first_bad_line
