use Rattle.law_base.proofs.Lasting.{octets_last}
use Rattle.law_base.proofs.lane_laws.law_octets_stay.Goals as goal

pub returns : goal.returns
returns c = octets_last
