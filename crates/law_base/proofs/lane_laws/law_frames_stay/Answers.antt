use Rattle.law_base.proofs.Lasting.{frames_stay}
use Rattle.law_base.proofs.lane_laws.law_frames_stay.Goals as goal

pub returns : goal.returns
returns c = frames_stay
