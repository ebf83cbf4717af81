use Rattle.law_base.proofs.Views.{known_is_seen}
use Rattle.law_base.proofs.view_laws.law_known_is_seen.Goals as goal

pub returns : goal.returns
returns c = known_is_seen
