use Rattle.law_base.proofs.Views.{routes_differ}
use Rattle.law_base.proofs.view_laws.law_routes_differ.Goals as goal

pub returns : goal.returns
returns c = routes_differ
