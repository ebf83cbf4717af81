use Rattle.par_lanes.proofs.Leasing.{are_leased}
use Rattle.par_lanes.proofs.leases.law_plans_are_leased.Goals as goal

pub returns : goal.returns
returns c = are_leased
