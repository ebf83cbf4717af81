use Rattle.law_base.proofs.Lasting.{wire_stays}
use Rattle.law_base.proofs.lane_laws.law_wires_stay.Goals as goal

pub returns : goal.returns
returns c = wire_stays
