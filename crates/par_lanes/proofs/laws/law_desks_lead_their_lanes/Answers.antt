use Rattle.lane_shares.specs.Names.{lane_cap}
use Rattle.par_lanes.proofs.DeskLanes.{lane_leads, charter_kept}
use Rattle.par_lanes.proofs.Following.{follow}
use Rattle.par_lanes.proofs.laws.law_desks_lead_their_lanes.Goals as goal

pub returns-clause-turns : goal.returns-clause-turns
returns-clause-turns g c = λ side shares first last log h. lane_leads g.X.Wire side shares first last log h

pub returns-clause-claims : goal.returns-clause-claims
returns-clause-claims g c = λ side shares first last log h.
    follow g.X.Wire (lane_cap (shares first)) (side first) (side last) log (lane_leads g.X.Wire side shares first last log h)

pub returns-clause-charter : goal.returns-clause-charter
returns-clause-charter g c = λ side shares first last log h. charter_kept g.X.Wire side shares first last log h
