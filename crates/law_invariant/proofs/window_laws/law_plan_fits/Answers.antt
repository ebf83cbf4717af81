use Rattle.law_invariant.proofs.Orders.{plan_fits}
use Rattle.law_invariant.proofs.window_laws.law_plan_fits.Goals as goal

pub returns : goal.returns
returns c = plan_fits
