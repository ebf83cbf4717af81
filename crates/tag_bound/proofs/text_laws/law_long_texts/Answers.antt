use Rattle.tag_bound.proofs.LongTexts.{long_texts}
use Rattle.tag_bound.proofs.text_laws.law_long_texts.Goals as goal

pub returns : goal.returns
returns c = long_texts
