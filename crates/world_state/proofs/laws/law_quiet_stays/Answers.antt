use Rattle.world_state.proofs.QuietStays.{quiet_stays}
use Rattle.world_state.proofs.laws.law_quiet_stays.Goals as goal

pub returns : goal.returns
returns c = quiet_stays
