use Rattle.law_base.proofs.Views.{view_is_known}
use Rattle.law_base.proofs.view_laws.law_view_is_known.Goals as goal

pub returns : goal.returns
returns c = view_is_known
