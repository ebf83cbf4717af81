use Rattle.law_locality.proofs.Frames.{frame_stays}
use Rattle.law_locality.proofs.locality_laws.law_frames_octets_stay_in_a_step.Goals as goal

pub returns : goal.returns
returns c = frame_stays
