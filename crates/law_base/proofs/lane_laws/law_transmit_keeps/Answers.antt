use Rattle.law_base.proofs.Transmitting.{transmit_keeps}
use Rattle.law_base.proofs.lane_laws.law_transmit_keeps.Goals as goal

pub returns : goal.returns
returns c = transmit_keeps
