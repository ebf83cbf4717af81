use Rattle.net_serve.proofs.Reported.{is_reported}
use Rattle.net_serve.proofs.courses.law_reported_of_serve.Goals as goal

pub returns : goal.returns
returns c = λ workers connections port stop http scenario course old new told. is_reported workers connections port http scenario course stop old new told
