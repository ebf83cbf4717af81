use Rattle.world_state.proofs.LanesGoOn.{lane_goes_on}
use Rattle.world_state.proofs.laws.law_lane_goes_on.Goals as goal

pub returns : goal.returns
returns g c = λ net w l a side r at may none stands. lane_goes_on net w r l g.X.Wire a side at may none stands
